-- What the numbers of a text mean, under the sheet's own order of priorities.
use Rattle.std.specs.Prelude.{ℕ, ◌+◌, ◌*◌, ◌≤◌, ◌<◌, List, length, All, ⊤, IfSome}
use Rattle.prta_sheet.specs.Sheet.{Task, Sheet, task_at, sheet_order}
use Rattle.prta_sheet.specs.Job.{Job, analysed_jobs}
use Rattle.prta_sheet.specs.Chance.{miss_weight, chance_total, IsAround}
use Rattle.prta_backlog.specs.Level.{sheet_level}
use Rattle.prta_certfile.specs.declared.level.CertLevel.{CertLevel}
use Rattle.prta_certfile.specs.declared.level.CertLevel.TheVariants.{Steps}
use Rattle.prta_certfile.specs.Steps.{cells_by_steps}
use Rattle.prta_certificate.specs.Candidates.{image_of_point, lowered, verdict_of}
use Rattle.prta_certificate.specs.Levels.{cert_level, IsFoundLevel, SteadyHold}
use Rattle.prta_certificate.specs.declared.verdict.Verdict.{Verdict}
use Rattle.prta_certificate.specs.declared.verdict.Verdict.TheVariants.{Turn, Slack, OverFull, BeyondCap}
use Rattle.prta_tail.specs.Walk.{first_ratio}
use Rattle.prta_tail.specs.Laws.{TailsHold}
use Rattle.prta_report.specs.Analysis.{bounds_in, sum_in}
use Rattle.prta_report.specs.Certificates.{stated_at}

-- for each analysed job the two numbers are around the exact chance that it misses its deadline
abbrev pub AreAround : Sheet → Type 0
AreAround sheet = All (λ job. IsAround sheet.tasks (sheet_order sheet.tasks) job (bounds_in sheet job).lower (bounds_in sheet job).upper) (analysed_jobs sheet)

-- and they differ by no more than the job's entries add up to
abbrev pub AreClose : Sheet → Type 0
AreClose sheet = All (λ job. (bounds_in sheet job).upper ≤ (bounds_in sheet job).lower + sum_in sheet job) (analysed_jobs sheet)

-- the exact chance that a job misses its deadline is at most p / q
abbrev pub ChancePasses : List Task → List ℕ → ℕ × ℕ → Job → Type 0
ChancePasses tasks order allow job = miss_weight tasks order job * allow.1 ≤ allow.0 * chance_total tasks job

-- that of each analysed job is at most its task's allowance
abbrev pub ChancesPass : Sheet → Type 0
ChancesPass sheet = All (λ job. ChancePasses sheet.tasks (sheet_order sheet.tasks) (task_at sheet.tasks job.task).allow job) (analysed_jobs sheet)

-- what is found for each level is so: a list that certifies it wherever there is one, or why there is none
abbrev pub AreFound : Sheet → Type 0
AreFound sheet = (i : ℕ) → i < length sheet.tasks → IsFoundLevel sheet.tasks (sheet_level i) sheet.settings.cap (cert_level sheet i)

-- the steady numbers of a task for the list that is stated for it hold in every hyperperiod
abbrev pub StatedHold : Sheet → ℕ → CertLevel → Type 0
StatedHold sheet i (Steps steps) = SteadyHold sheet i (cells_by_steps sheet.settings.cap steps)
StatedHold sheet i level = ⊤

-- those of each task do
abbrev pub NumbersHold : Sheet → List CertLevel → Type 0
NumbersHold sheet levels = (i : ℕ) → i < length sheet.tasks → StatedHold sheet i (stated_at levels i)

-- the steady numbers of a level's rows hold in every hyperperiod: those of the list that is found, or those of the tail
abbrev pub LevelHolds : Sheet → ℕ → Verdict → Type 0
LevelHolds sheet i (Turn j) = SteadyHold sheet i (image_of_point sheet.tasks (sheet_level i) sheet.settings.cap j)
LevelHolds sheet i (Slack s) = SteadyHold sheet i (lowered sheet.tasks (sheet_level i) sheet.settings.cap sheet.settings.turns s)
LevelHolds sheet i (OverFull work total) = IfSome (first_ratio sheet.tasks (sheet_level i)) (TailsHold sheet i)
LevelHolds sheet i (BeyondCap most) = ⊤

-- those of each level do
abbrev pub LevelsHold : Sheet → Type 0
LevelsHold sheet = (i : ℕ) → i < length sheet.tasks → LevelHolds sheet i (verdict_of sheet.tasks (sheet_level i) sheet.settings.cap sheet.settings.turns)
