-- Sheets with ticks added to each time of one task.
use Rattle.std.specs.Prelude.{◌≡◌, ℕ, ◌-◌, ◌<◌, ◌≤◌, nat_eq, if◌then◌else◌, max, List, map, length, fold, slice_set}
use Rattle.prta_mass.specs.Table.{greatest}
use Rattle.prta_mass.specs.Added.{with_added}
use Rattle.prta_sheet.specs.declared.limits.TheConstants.{TIME_LIMIT}
use Rattle.prta_sheet.specs.Sheet.{Task, Sheet, task_at, hyperperiod}
use Rattle.prta_sheet.specs.Job.{Job, table_of, jobs_before}
use Rattle.prta_sheet.specs.Work.{work}
use Rattle.prta_sheet.specs.Accepted.{IsAccepted}

-- s ticks added to each time of each table of the task's cycle
abbrev pub task_with_added : Task → ℕ → Task
task_with_added task s = record task { cycle = map (λ table. with_added table s) task.cycle }

abbrev pub tasks_with_added : List Task → ℕ → ℕ → List Task
tasks_with_added tasks i s = slice_set tasks i (task_with_added (task_at tasks i) s)

-- s ticks added to task i
abbrev pub sheet_with_added : Sheet → ℕ → ℕ → Sheet
sheet_with_added sheet i s = record sheet { tasks = tasks_with_added sheet.tasks i s }

-- a task, and a sheet, that is the base with some number added to the task
abbrev pub IsTaskWithAdded : Task → Task → Type 0
IsTaskWithAdded base task = (r : ℕ) × (task ≡ task_with_added base r)

abbrev pub IsSheetWithAdded : Sheet → ℕ → Sheet → Type 0
IsSheetWithAdded base i sheet = (r : ℕ) × (sheet ≡ sheet_with_added base i r)

-- the greatest time of all tables of the task's cycle
abbrev pub greatest_time : Task → ℕ
greatest_time task = fold (λ most table. max most (greatest table)) 0 task.cycle

-- how many ticks may be added to the task before one of its times is above the limit
abbrev pub room : Task → ℕ
room task = TIME_LIMIT - greatest_time task

-- what ticks that are added to a task within its room leave as it is
pub record KeepsWithAdded (sheet : Sheet) (i s : ℕ) : Type 0 where
  -- no ticks leave all
  pub none : sheet_with_added sheet i 0 ≡ sheet
  pub accepted : IsAccepted (sheet_with_added sheet i s)
  pub same_hyperperiod : hyperperiod (tasks_with_added sheet.tasks i s) ≡ hyperperiod sheet.tasks
  pub same_jobs : (t : ℕ) → jobs_before (tasks_with_added sheet.tasks i s) t ≡ jobs_before sheet.tasks t
  pub same_work : work (sheet_with_added sheet i s) ≡ work sheet
  -- a job's table changes where it is one of the task's
  pub tables : (job : Job) → table_of (tasks_with_added sheet.tasks i s) job ≡ (if nat_eq job.task i then with_added (table_of sheet.tasks job) s else table_of sheet.tasks job)

abbrev pub AddedSheets : Type 0
AddedSheets = (sheet : Sheet) (i s : ℕ) → IsAccepted sheet → i < length sheet.tasks → s ≤ room (task_at sheet.tasks i) → KeepsWithAdded sheet i s
