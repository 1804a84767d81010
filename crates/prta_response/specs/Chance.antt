-- Numbers against exact chances.
use Rattle.std.specs.Prelude.{◌≡◌, ℕ, ◌+◌, ◌*◌, ◌/◌, ◌≤◌, true, nat_lt, List, length}
use Rattle.prta_mass.specs.Unit.{unit}
use Rattle.prta_mass.specs.declared.direction.Dir.{Dir}
use Rattle.prta_mass.specs.declared.direction.Dir.TheVariants.{Up, Down}
use Rattle.prta_sheet.specs.Sheet.{Task, task_at, hyperperiod}
use Rattle.prta_sheet.specs.Job.{Job, nth_job}
use Rattle.prta_sheet.specs.Machine.{place}
use Rattle.prta_sheet.specs.Chance.{miss_weight, chance_total}
use Rattle.prta_jobs.specs.Permutation.{is_order}
use Rattle.prta_backlog.specs.Level.{Level}

-- an order of the tasks in which exactly the higher tasks of a level stand above its own
pub record IsOrderFor (tasks : List Task) (level : Level) (order : List ℕ) : Type 0 where
  pub permutation : is_order (length tasks) order ≡ true
  pub above : (i : ℕ) → level.higher i ≡ nat_lt (place order i) (place order level.own)

-- a number, in units of 2^-60, is a bound of the exact chance that the job misses: in Up from above, in Down from below
abbrev pub BoundsChance : Dir → List Task → List ℕ → Job → ℕ → Type 0
BoundsChance Up tasks order job number = unit * miss_weight tasks order job ≤ number * chance_total tasks job
BoundsChance Down tasks order job number = number * chance_total tasks job ≤ unit * miss_weight tasks order job

-- the copy of the k-th job of task i in the m-th later hyperperiod
abbrev pub copy_of : List Task → ℕ → ℕ → ℕ → Job
copy_of tasks i k m = nth_job tasks i (k + m * (hyperperiod tasks / (task_at tasks i).period))
