-- Passing: what a task's allowance asks of its numbers, and of its jobs' exact chances.
use Rattle.std.specs.Prelude.{ℕ, ◌*◌, ◌≤◌, ◌<◌, Bool, List, length}
use Rattle.std.specs.List.{list_all, range_with_len}
use Rattle.prta_mass.specs.Passing.{passes}
use Rattle.prta_mass.specs.declared.direction.Dir.{Dir}
use Rattle.prta_sheet.specs.Sheet.{Sheet, task_at}
use Rattle.prta_sheet.specs.Job.{Job, nth_job}
use Rattle.prta_sheet.specs.Counts.{job_count}
use Rattle.prta_sheet.specs.Chance.{miss_weight, chance_total}
use Rattle.prta_jobs.specs.Permutation.{is_above}
use Rattle.prta_backlog.specs.Level.{Level}
use Rattle.prta_response.specs.Response.{number_of}

-- the level of a task with exactly the tasks of a set above it
abbrev pub level : (ℕ → Bool) → ℕ → Level
level higher task = record { higher = higher; own = task }

-- a number is at most p / q
abbrev pub number_passes : ℕ × ℕ → ℕ → Bool
number_passes allow number = passes number allow.0 allow.1

-- the number of the k-th job of a task above which exactly the tasks of a set stand
abbrev pub job_number : Dir → Sheet → (ℕ → Bool) → ℕ → ℕ → ℕ
job_number dir sheet higher task k = number_of dir sheet (level higher task) (nth_job sheet.tasks task k)

-- a task passes above a set by a direction: the numbers of all its analysed jobs in that direction pass its allowance
abbrev pub task_passes : Dir → Sheet → (ℕ → Bool) → ℕ → Bool
task_passes dir sheet higher task =
    list_all (λ k. number_passes (task_at sheet.tasks task).allow (job_number dir sheet higher task k)) (range_with_len 0 (job_count sheet task))

-- an order passes by a direction: each of its tasks passes with exactly those before it above it
abbrev pub order_passes : Dir → Sheet → List ℕ → Bool
order_passes dir sheet order = list_all (λ task. task_passes dir sheet (is_above order task) task) order

-- under an order, the exact chance that a job misses its deadline is at most its task's allowance, or is above it
abbrev pub ChancePasses : Sheet → List ℕ → Job → Type 0
ChancePasses sheet order job = let allow = (task_at sheet.tasks job.task).allow in miss_weight sheet.tasks order job * allow.1 ≤ allow.0 * chance_total sheet.tasks job

abbrev pub ChanceFails : Sheet → List ℕ → Job → Type 0
ChanceFails sheet order job = let allow = (task_at sheet.tasks job.task).allow in allow.0 * chance_total sheet.tasks job < miss_weight sheet.tasks order job * allow.1

-- an analysed job
pub record IsAnalysed (sheet : Sheet) (task k : ℕ) : Type 0 where
  pub listed : task < length sheet.tasks
  pub analysed : k < job_count sheet task

-- that of every analysed job passes
abbrev pub ChancesPass : Sheet → List ℕ → Type 0
ChancesPass sheet order = (task k : ℕ) → IsAnalysed sheet task k → ChancePasses sheet order (nth_job sheet.tasks task k)

-- that of some analysed job fails
pub record SomeChanceFails (sheet : Sheet) (order : List ℕ) : Type 0 where
  pub task : ℕ
  pub number : ℕ
  pub analysed : IsAnalysed sheet task number
  pub fails : ChanceFails sheet order (nth_job sheet.tasks task number)
