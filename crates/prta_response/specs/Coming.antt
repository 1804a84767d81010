-- Walks through the jobs that delay a response, in order of release and then of the sheet.
use Rattle.std.specs.Prelude.{◌≡◌, ℕ, ◌-◌, ◌^◌, ◌<◌, Bool, true, false, List, ◌∷◌, ◌++◌, filter, length}
use Rattle.prta_sheet.specs.Sheet.{Task, task_at}
use Rattle.prta_sheet.specs.Job.{Job, is_release, released_at}
use Rattle.prta_jobs.specs.TaskSet.{holds}
use Rattle.prta_jobs.specs.Instant.{IsOnSheet}
use Rattle.prta_backlog.specs.Level.{has_task, delaying}
use Rattle.prta_backlog.specs.Pass.{level_of}

-- the level, the end, before which the jobs are released, the instant at which the walk stands, and the higher tasks whose jobs of this instant are still to come
pub record ComingState : Type 0 where
  pub higher : List Bool
  pub own : ℕ
  pub end : ℕ
  pub at : ℕ
  pub waiting : List Bool

-- the jobs to come: those that wait at the instant, and those of higher tasks released after it and before the end
abbrev pub to_come : List Task → ComingState → List Job
to_come tasks coming =
    filter (λ job. holds coming.waiting job.task) (released_at 0 tasks coming.at) ++ delaying tasks (level_of coming.higher coming.own) coming.at (coming.end - coming.at)

-- what holds of every walk over the tasks of a sheet
pub record IsComing (tasks : List Task) (coming : ComingState) : Type 0 where
  pub on_sheet : IsOnSheet tasks (has_task (level_of coming.higher coming.own))
  pub apart : holds coming.higher coming.own ≡ false
  pub inside : coming.at < coming.end
  pub early : coming.end < 2 ^ 32
  pub released : (i : ℕ) → holds coming.waiting i ≡ true → is_release (task_at tasks i) coming.at ≡ true

-- a job is the next one of a walk
pub record IsNextJob (tasks : List Task) (before after : ComingState) (job : Job) : Type 0 where
  pub jobs : to_come tasks before ≡ job ∷ to_come tasks after
  pub on_sheet : job.task < length tasks
  pub now : job.release ≡ after.at

-- the first task of a set among the first n
pub record IsFirst (set : List Bool) (n task : ℕ) : Type 0 where
  pub inside : task < n
  pub held : holds set task ≡ true
  pub first : (i : ℕ) → i < task → holds set i ≡ false
