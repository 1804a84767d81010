-- Instants: the times at which tasks of a level release jobs.
use Rattle.std.specs.Prelude.{◌≡◌, ℕ, ◌<◌, ◌≤◌, Bool, true, false, ◌&&◌, List, length}
use Rattle.prta_sheet.specs.Sheet.{Task, task_at}
use Rattle.prta_sheet.specs.Job.{is_release}

-- a time is the first from another one on at which a task releases a job
pub record IsNextRelease (task : Task) (from at : ℕ) : Type 0 where
  pub reached : from ≤ at
  pub release : is_release task at ≡ true
  pub least : (t : ℕ) → from ≤ t → t < at → is_release task t ≡ false

-- below, a level is a set of tasks, given as the test that just its tasks pass

-- task i is of the level, and releases a job at time t
abbrev pub is_released : List Task → (ℕ → Bool) → ℕ → ℕ → Bool
is_released tasks level t i = level i && is_release (task_at tasks i) t

-- all tasks of the level are on the sheet
abbrev pub IsOnSheet : List Task → (ℕ → Bool) → Type 0
IsOnSheet tasks level = (i : ℕ) → level i ≡ true → i < length tasks

-- the level has a task
abbrev pub HasTask : (ℕ → Bool) → Type 0
HasTask level = (i : ℕ) × (level i ≡ true)

-- a time is the least from another one on at which a task of the level releases a job
pub record IsLeastRelease (tasks : List Task) (level : ℕ → Bool) (from at : ℕ) : Type 0 where
  pub reached : from ≤ at
  pub some : HasTask (is_released tasks level at)
  pub least : (t : ℕ) → from ≤ t → t < at → (i : ℕ) → is_released tasks level t i ≡ false

-- what a contract sees of an instant: a time, and the set of the tasks that release a job then
pub record InstantParts : Type 0 where
  pub at : ℕ
  pub released : List Bool

-- the least such time, with all tasks of the level that release a job then
pub record IsInstant (tasks : List Task) (level : ℕ → Bool) (from at : ℕ) (released : ℕ → Bool) : Type 0 where
  pub time : IsLeastRelease tasks level from at
  pub each : (i : ℕ) → released i ≡ is_released tasks level at i
