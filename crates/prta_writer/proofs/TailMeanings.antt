-- What the rows of `tail` mean, from the laws of certificates and of tails.
use Rattle.std.proofs.Common.{◌≡◌, ℕ, ◌<◌, Bool, true, IfSome, find, List, [], ◌∷◌, length, Contains, ◌∙◌, refl, arith, inl, inr}
use Rattle.std.proofs.lemmas.Bool.{cases_Bool}
use Rattle.std.proofs.lemmas.List.Elements.{Contains-append_right}
use Rattle.prta_mass.specs.Chances.{point, IsChances}
use Rattle.prta_sheet.specs.Sheet.{Sheet, task_at, sheet_order}
use Rattle.prta_sheet.specs.Accepted.{IsTask, IsAccepted}
use Rattle.prta_dist.proofs.Cells.{length-cells_of}
use Rattle.prta_dist.proofs.Chances.{lower_chances}
use Rattle.prta_backlog.specs.Level.{Level, sheet_level}
use Rattle.prta_backlog.specs.Greatest.{worst_backlog}
use Rattle.prta_backlog.specs.Laws.{StaysChances}
use Rattle.prta_backlog.proofs.Chances.{size_point}
use Rattle.prta_response.specs.Laws.{IsLevelOf}
use Rattle.prta_certificate.specs.Certificate.{Certifies}
use Rattle.prta_certificate.specs.Candidates.{image_of_point, lowered, verdict_of}
use Rattle.prta_certificate.specs.declared.verdict.Verdict.{Verdict}
use Rattle.prta_certificate.specs.declared.verdict.Verdict.TheVariants.{Turn, Slack, OverFull, BeyondCap}
use Rattle.prta_certificate.specs.Verdict.{Says, VerdictsSay}
use Rattle.prta_certificate.specs.Laws.{SteadyNumbersHold}
use Rattle.prta_certificate.specs.Levels.{SteadyHold}
use Rattle.prta_certificate.proofs.Completeness.{images_stay}
use Rattle.prta_certificate.proofs.SheetLevels.{is_level, own_order_fits}
use Rattle.prta_tail.specs.declared.ratio.Ratio.{Ratio}
use Rattle.prta_tail.specs.Ratios.{ratios}
use Rattle.prta_tail.specs.Walk.{ratio_passes}
use Rattle.prta_tail.specs.Laws.{Passes, TailsHold, BacklogsHaveTails, TailNumbersHold}
use Rattle.prta_writer.specs.Meaning.{LevelHolds, LevelsHold}

-- what is found passes, and is one of those that were tried
found_passes : {A : Type 0} (p : A → Bool) (P : A → Type 0) (xs : List A) → ((x : A) → Contains xs x → p x ≡ true → P x) → IfSome (find p xs) P
found_passes p P [] each = tt
found_passes p P (x ∷ xs) each =
    elim (cases_Bool (p x)) [
      | inl passes ↦ rw passes (each x (0, omega arith, refl) passes)
      | inr fails ↦ rw fails (found_passes p P xs (λ y listed passes. each y (Contains-append_right (x ∷ []) xs y listed) passes))
    ]

module _ (say : VerdictsSay) (hold : SteadyNumbersHold) (backlogs : BacklogsHaveTails) (tails : TailNumbersHold) (sheet : Sheet) (is : IsAccepted sheet) (i : ℕ) (low : i < length sheet.tasks) where
  abbrev cap : ℕ
  cap = sheet.settings.cap

  abbrev turns : ℕ
  turns = sheet.settings.turns

  abbrev level : Level
  level = sheet_level i

  of : IsLevelOf sheet.tasks level
  of = is_level sheet i is low

  task : IsTask cap (task_at sheet.tasks i)
  task = is.tasks i _ low

  -- the steady numbers for a list that certifies the level hold
  list_holds : (cells : List ℕ) → length cells ≡ cap → IsChances cells → Certifies sheet.tasks level cells → SteadyHold sheet i cells
  list_holds cells size chances certified = λ k m.
      hold sheet.tasks level cells (sheet_order sheet.tasks) k m of (omega (arith, size, task.deadline_high)) chances certified (own_order_fits sheet.tasks i low)

  image_stays : (j : ℕ) → StaysChances (point cap 0) (image_of_point sheet.tasks level cap j)
  image_stays j = images_stay sheet.tasks level cap of (omega (arith, is.settings.cap_low)) j

  image_size : (j : ℕ) → length (image_of_point sheet.tasks level cap j) ≡ cap
  image_size j = (image_stays j).size ∙ size_point cap 0

  -- so do those for its tail
  tail_holds : (ratio : Ratio) → Passes sheet.tasks level ratio → TailsHold sheet i ratio
  tail_holds ratio passes = record {
    numbers = λ k m. tails sheet.tasks level cap turns ratio (sheet_order sheet.tasks) k m of (omega (arith, task.deadline_high)) passes (own_order_fits sheet.tasks i low);
    backlogs = λ m. backlogs sheet.tasks level ratio m of passes;
  }

  level_holds : (verdict : Verdict) → Says sheet.tasks level cap turns verdict → LevelHolds sheet i verdict
  level_holds (Turn j) says = list_holds (image_of_point sheet.tasks level cap j) (image_size j) (image_stays j).chances says.certified
  level_holds (Slack s) says =
      list_holds (lowered sheet.tasks level cap turns s)
      (length-cells_of (length (image_of_point sheet.tasks level cap turns)) _ ∙ image_size turns)
      (lower_chances s (worst_backlog sheet.tasks level) (image_of_point sheet.tasks level cap turns) (image_stays turns).chances)
      says.certified
  level_holds (OverFull work total) says =
      found_passes (ratio_passes sheet.tasks level) (TailsHold sheet i) ratios (λ ratio listed passes. tail_holds ratio (record { listed = listed; passes = passes }))
  level_holds (BeyondCap most) says = tt

  holds_for : LevelHolds sheet i (verdict_of sheet.tasks level cap turns)
  holds_for = level_holds (verdict_of sheet.tasks level cap turns) (say sheet.tasks level cap turns of)

pub levels_hold : VerdictsSay → SteadyNumbersHold → BacklogsHaveTails → TailNumbersHold → (sheet : Sheet) → IsAccepted sheet → LevelsHold sheet
levels_hold say hold backlogs tails sheet is i low = holds_for say hold backlogs tails sheet is i low
