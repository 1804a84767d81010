-- What is stated of a level for its verdict is so.
use Rattle.std.proofs.Common.{◌≡◌, ℕ, ◌≤◌, ◌<◌, List, length, ap, sym, ◌∙◌, subst, arith, ⊎_elim, inl, inr}
use Rattle.std.proofs.lemmas.Bool.{cases_lt}
use Rattle.prta_mass.specs.Chances.{point, IsChances}
use Rattle.prta_sheet.specs.Sheet.{Task, hyperperiod}
use Rattle.prta_certfile.specs.Steps.{steps_of, cells_by_steps, AreBelow}
use Rattle.prta_certfile.specs.Laws.{StepsAreLists}
use Rattle.prta_certfile.specs.declared.level.CertLevel.TheVariants as stated
use Rattle.prta_dist.proofs.Cells.{length-cells_of}
use Rattle.prta_dist.proofs.Chances.{lower_chances}
use Rattle.prta_backlog.specs.Level.{Level, sheet_level}
use Rattle.prta_backlog.specs.Greatest.{greatest_work, worst_backlog, peak}
use Rattle.prta_backlog.specs.Laws.{StaysChances}
use Rattle.prta_backlog.proofs.Chances.{size_point}
use Rattle.prta_response.specs.Laws.{IsLevelOf}
use Rattle.prta_certificate.specs.Certificate.{Certifies}
use Rattle.prta_certificate.specs.Candidates.{image_of_point, lowered, verdict_of}
use Rattle.prta_certificate.specs.declared.verdict.Verdict.{Verdict}
use Rattle.prta_certificate.specs.declared.verdict.Verdict.TheVariants.{Turn, Slack, OverFull, BeyondCap}
use Rattle.prta_certificate.specs.Verdict.{Says, VerdictsSay}
use Rattle.prta_certificate.specs.Levels.{level_for, HasCertificate, IsCertified, IsFoundLevel, LevelsAreFound}
use Rattle.prta_certificate.proofs.Completeness.{images_stay, none_certifies}
use Rattle.prta_certificate.proofs.SheetLevels.{is_level}

-- a list of chances of some cells
record IsList (cap : ℕ) (cells : List ℕ) : Type 0 where
  size : length cells ≡ cap
  chances : IsChances cells

module _ (law : StepsAreLists) (tasks : List Task) (level : Level) (cap turns : ℕ) (of : IsLevelOf tasks level) (some : 0 < cap) where
  -- those that are tried are
  image_list : (j : ℕ) → IsList cap (image_of_point tasks level cap j)
  image_list j =
      let stays : StaysChances (point cap 0) (image_of_point tasks level cap j) = images_stay tasks level cap of some j in
      record { size = stays.size ∙ size_point cap 0; chances = stays.chances }

  lowered_list : (s : ℕ) → IsList cap (lowered tasks level cap turns s)
  lowered_list s =
      let image : IsList cap (image_of_point tasks level cap turns) = image_list turns in
      record {
        size = length-cells_of (length (image_of_point tasks level cap turns)) _ ∙ image.size;
        chances = lower_chances s (worst_backlog tasks level) (image_of_point tasks level cap turns) image.chances;
      }

  -- one that certifies shows that the level's numbers are low enough
  has_certificate : (cells : List ℕ) → IsList cap cells → Certifies tasks level cells → HasCertificate tasks level cap
  has_certificate cells list is = record {
    fits = ⊎_elim
        (λ (over : hyperperiod tasks < greatest_work tasks level). absurd (none_certifies tasks level cap cells of (inl over) list.size list.chances is))
        (λ (fits : greatest_work tasks level ≤ hyperperiod tasks). fits)
        (cases_lt (hyperperiod tasks) (greatest_work tasks level));
    below = ⊎_elim
        (λ (below : peak tasks level < cap). below)
        (λ (over : cap ≤ peak tasks level). absurd (none_certifies tasks level cap cells of (inr over) list.size list.chances is))
        (cases_lt (peak tasks level) cap);
  }

  -- and is read off its steps
  is_certified : (cells : List ℕ) → IsList cap cells → Certifies tasks level cells → IsCertified tasks level cap (steps_of cells)
  is_certified cells list is =
      let again : cells_by_steps cap (steps_of cells) ≡ cells = ap (λ n. cells_by_steps n (steps_of cells)) (sym list.size) ∙ law.read cells list.chances.rising in
      record {
        steps_are = law.rise cells list.chances;
        below = subst (λ n. AreBelow n (steps_of cells)) list.size (law.below cells);
        whole = (law.whole cells list.chances.rising).0 is.whole;
        certified = subst (Certifies tasks level) (sym again) is;
      }

  found : (cells : List ℕ) → IsList cap cells → Certifies tasks level cells → IsFoundLevel tasks level cap (stated.Steps (steps_of cells))
  found cells list is = (has_certificate cells list is, is_certified cells list is)

  -- what a verdict says carries over to what is stated for it
  found_for : (verdict : Verdict) → Says tasks level cap turns verdict → IsFoundLevel tasks level cap (level_for tasks level cap turns verdict)
  found_for (Turn j) says = found (image_of_point tasks level cap j) (image_list j) says.certified
  found_for (Slack s) says = found (lowered tasks level cap turns s) (lowered_list s) says.certified
  found_for (OverFull work total) says = says
  found_for (BeyondCap most) says = says

pub levels_are_found : VerdictsSay → StepsAreLists → LevelsAreFound
levels_are_found say law sheet i accepted listed =
    let cap : ℕ = sheet.settings.cap in
    let turns : ℕ = sheet.settings.turns in
    let of : IsLevelOf sheet.tasks (sheet_level i) = is_level sheet i accepted listed in
    found_for law sheet.tasks (sheet_level i) cap turns of (omega (arith, accepted.settings.cap_low)) (verdict_of sheet.tasks (sheet_level i) cap turns) (say sheet.tasks (sheet_level i) cap turns of)
