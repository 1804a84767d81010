-- The levels of a sheet as a certificate states them, and what is so of those that are found.
use Rattle.std.specs.Prelude.{ℕ, ◌≤◌, ◌<◌, List, length}
use Rattle.prta_mass.specs.declared.direction.Dir.TheVariants.{Up}
use Rattle.prta_sheet.specs.Sheet.{Task, Sheet, sheet_order, hyperperiod}
use Rattle.prta_sheet.specs.Job.{nth_job}
use Rattle.prta_sheet.specs.Accepted.{IsAccepted}
use Rattle.prta_backlog.specs.Level.{Level, sheet_level}
use Rattle.prta_backlog.specs.Greatest.{greatest_work, peak}
use Rattle.prta_response.specs.Chance.{BoundsChance, copy_of}
use Rattle.prta_certfile.specs.declared.level.CertLevel.{CertLevel}
use Rattle.prta_certfile.specs.declared.level.CertLevel.TheVariants as stated
use Rattle.prta_certfile.specs.Steps.{steps_of, cells_by_steps, IsSteps, IsWholeSteps, AreBelow}
use Rattle.prta_certificate.specs.Certificate.{Certifies, steady_number}
use Rattle.prta_certificate.specs.Candidates.{image_of_point, lowered, verdict_of}
use Rattle.prta_certificate.specs.Verdict.{IsOverFull, IsBeyondCap}
use Rattle.prta_certificate.specs.declared.verdict.Verdict.{Verdict}
use Rattle.prta_certificate.specs.declared.verdict.Verdict.TheVariants.{Turn, Slack, OverFull, BeyondCap}

-- what is stated of a level for a verdict: the list that it names, by its steps, or why there is none
abbrev pub level_for : List Task → Level → ℕ → ℕ → Verdict → CertLevel
level_for tasks level cap turns (Turn j) = stated.Steps (steps_of (image_of_point tasks level cap j))
level_for tasks level cap turns (Slack s) = stated.Steps (steps_of (lowered tasks level cap turns s))
level_for tasks level cap turns (OverFull work total) = stated.OverFull work total
level_for tasks level cap turns (BeyondCap most) = stated.BeyondCap most

-- what is found for the level of a task in the sheet's order
abbrev pub cert_level : Sheet → ℕ → CertLevel
cert_level sheet i =
    level_for sheet.tasks (sheet_level i) sheet.settings.cap sheet.settings.turns
    (verdict_of sheet.tasks (sheet_level i) sheet.settings.cap sheet.settings.turns)

-- the greatest work of a level is at most the hyperperiod, and its peak is below the cap
pub record HasCertificate (tasks : List Task) (level : Level) (cap : ℕ) : Type 0 where
  pub fits : greatest_work tasks level ≤ hyperperiod tasks
  pub below : peak tasks level < cap

-- the list with these steps certifies a level
pub record IsCertified (tasks : List Task) (level : Level) (cap : ℕ) (steps : List (ℕ × ℕ)) : Type 0 where
  pub steps_are : IsSteps steps
  pub below : AreBelow cap steps
  pub whole : IsWholeSteps steps
  pub certified : Certifies tasks level (cells_by_steps cap steps)

-- what is stated of a level is so: a list where there is one, which certifies it, or why no list of as many cells as the cap does
abbrev pub IsFoundLevel : List Task → Level → ℕ → CertLevel → Type 0
IsFoundLevel tasks level cap (stated.Steps steps) = HasCertificate tasks level cap × IsCertified tasks level cap steps
IsFoundLevel tasks level cap (stated.OverFull work total) = IsOverFull tasks level cap work total
IsFoundLevel tasks level cap (stated.BeyondCap most) = IsBeyondCap tasks level cap most

-- for each level of an accepted sheet
abbrev pub LevelsAreFound : Type 0
LevelsAreFound = (sheet : Sheet) (i : ℕ) → IsAccepted sheet → i < length sheet.tasks → IsFoundLevel sheet.tasks (sheet_level i) sheet.settings.cap (cert_level sheet i)

-- the steady numbers of a task for a list hold in every hyperperiod: that of job k bounds the exact chance that its copy m hyperperiods
-- later misses its deadline, under the sheet's own order of priorities
abbrev pub SteadyHold : Sheet → ℕ → List ℕ → Type 0
SteadyHold sheet i cells =
    (k m : ℕ) → BoundsChance Up sheet.tasks (sheet_order sheet.tasks) (copy_of sheet.tasks i k m) (steady_number sheet.tasks (sheet_level i) cells (nth_job sheet.tasks i k))
