-- What the levels of a certificate mean, from the laws of certificates.
use Rattle.std.proofs.Common.{◌≡◌, ℕ, ◌<◌, Bool, true, false, nat_eq, is_some, is_none, None, Some, Option, List, length, get_or, refl, ap, sym, ◌∙◌, arith}
use Rattle.std.specs.List.{range_with_len}
use Rattle.std.proofs.lemmas.Bool.{and_from, eq-eqb}
use Rattle.std.proofs.lemmas.List.FromFn.{length-range_with_len, get_or-range_with_len}
use Rattle.prta_mass.specs.Unit.{unit}
use Rattle.prta_mass.specs.Chances.{last}
use Rattle.prta_sheet.specs.Sheet.{Sheet, task_at, sheet_order}
use Rattle.prta_sheet.specs.Accepted.{IsAccepted, IsTask}
use Rattle.prta_backlog.specs.Level.{sheet_level}
use Rattle.prta_dist.specs.declared.effect.Break.{Break}
use Rattle.prta_certfile.specs.declared.level.CertLevel.{CertLevel}
use Rattle.prta_certfile.specs.declared.level.CertLevel.TheVariants.{Steps, OverFull, BeyondCap}
use Rattle.prta_certfile.specs.Steps.{cells_by_steps}
use Rattle.prta_certfile.specs.Laws.{StepsAreLists, AreLevels, IsLevel, AreWholeChances}
use Rattle.prta_certificate.specs.Certificate.{Certifies, broken_at}
use Rattle.prta_certificate.specs.Laws.{TestCertifies, SteadyNumbersHold}
use Rattle.prta_certificate.proofs.SheetLevels.{is_level, own_order_fits}
use Rattle.prta_report.specs.Certificates.{stated_at, broken_in, broken_task}
use Rattle.prta_writer.specs.Meaning.{StatedHold, NumbersHold}
use Rattle.prta_writer.proofs.Finding.{none_passes}

-- no break was found
none_there : (found : Option Break) → is_some found ≡ false → is_none found ≡ true
none_there None e = refl
none_there (Some found) e = cc

module _ (lists : StepsAreLists) (test : TestCertifies) (hold : SteadyNumbersHold) (sheet : Sheet) (is : IsAccepted sheet) where
  -- a whole list that isn't broken certifies its level, and so its steady numbers hold
  stated_hold : (i : ℕ) (level : CertLevel) → i < length sheet.tasks → IsLevel sheet.settings.cap level → is_some (broken_in sheet i level) ≡ false → StatedHold sheet i level
  stated_hold i (Steps steps) low of whole_is = λ k m.
      let cap : ℕ = sheet.settings.cap in
      let cells : List ℕ = cells_by_steps cap steps in
      let made : AreWholeChances cap cells = lists.make cap steps of.0 of.1 of.2 in
      let task : IsTask cap (task_at sheet.tasks i) = is.tasks i _ low in
      let certified : Certifies sheet.tasks (sheet_level i) cells =
      (test sheet.tasks (sheet_level i) cells (is_level sheet i is low) (omega (arith, made.size, is.settings.cap_low)) made.chances).0
      (and_from (nat_eq (last cells) unit) (is_none (broken_at sheet.tasks (sheet_level i) cells)) (eq-eqb (last cells) unit made.whole)
      (none_there (broken_at sheet.tasks (sheet_level i) cells) whole_is)) in
      hold sheet.tasks (sheet_level i) cells (sheet_order sheet.tasks) k m (is_level sheet i is low) (omega (arith, made.size, task.deadline_high)) made.chances certified (own_order_fits sheet.tasks i low)
  stated_hold i (OverFull work total) low of whole_is = tt
  stated_hold i (BeyondCap most) low of whole_is = tt

  -- where no list is broken, those of each task do
  pub numbers_hold : (levels : List CertLevel) → AreLevels sheet.tasks sheet.settings.cap levels → broken_task sheet levels ≡ None → NumbersHold sheet levels
  numbers_hold levels are none = λ i low.
      let n : ℕ = length sheet.tasks in
      let size : length (range_with_len 0 n) ≡ n = length-range_with_len 0 n in
      let breaks : ℕ → Bool = λ j. is_some (broken_in sheet j (stated_at levels j)) in
      let place : get_or (range_with_len 0 n) i 0 ≡ i = omega (arith, get_or-range_with_len 0 n i 0 low) in
      let whole : breaks i ≡ false = ap breaks (sym place) ∙ none_passes breaks (range_with_len 0 n) none i 0 (omega (arith, size, low)) in
      stated_hold i (stated_at levels i) low (are.each i (BeyondCap 0) (omega (arith, are.count, low))) whole
