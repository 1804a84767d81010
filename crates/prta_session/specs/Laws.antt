-- Laws of edits, sessions and scripts.
use Rattle.std.specs.Prelude.{◌≡◌, ℕ, ◌<◌, ◌≤◌, true, false, List, length}
use Rattle.prta_mass.specs.declared.direction.Dir.{Dir}
use Rattle.prta_sheet.specs.declared.edit.Edit.{Edit}
use Rattle.prta_sheet.specs.Sheet.{Task, Sheet, task_at}
use Rattle.prta_sheet.specs.Job.{Job}
use Rattle.prta_sheet.specs.Edits.{edited}
use Rattle.prta_backlog.specs.Level.{Level, sheet_level}
use Rattle.prta_response.specs.Response.{number_of}
use Rattle.prta_dual.specs.Numbers.{all_bounds}
use Rattle.prta_session.specs.declared.script.Line.{Line}
use Rattle.prta_session.specs.State.{SessionState, is_fresh, makes_stale, refreshed, stale_tasks}
use Rattle.prta_session.specs.Playing.{sheets_printed, print_count}

-- ---- what the numbers of a task depend on

-- two tasks release their jobs at the same times
pub record ReleaseAlike (a b : Task) : Type 0 where
  pub offset : a.offset ≡ b.offset
  pub period : a.period ≡ b.period

-- two sheets agree on the lists of chances, on all releases, on the tables of a level's tasks, and on the deadline of its own task
pub record AgreeOn (level : Level) (a b : Sheet) : Type 0 where
  pub cap : a.settings.cap ≡ b.settings.cap
  pub support : a.settings.support ≡ b.settings.support
  pub count : length a.tasks ≡ length b.tasks
  pub releases : (i : ℕ) → ReleaseAlike (task_at a.tasks i) (task_at b.tasks i)
  pub higher : (i : ℕ) → level.higher i ≡ true → (task_at a.tasks i).cycle ≡ (task_at b.tasks i).cycle
  pub own : (task_at a.tasks level.own).cycle ≡ (task_at b.tasks level.own).cycle
  pub deadline : (task_at a.tasks level.own).deadline ≡ (task_at b.tasks level.own).deadline

-- then the numbers of the level's jobs are the same: they depend on no other table, no other deadline, and no allowance
abbrev pub NumbersDependOn : Type 0
NumbersDependOn = (level : Level) (a b : Sheet) → AgreeOn level a b → (dir : Dir) (job : Job) → number_of dir a level job ≡ number_of dir b level job

-- ---- edits

-- an edit leaves the numbers of a task
pub record KeepsNumbers (edit : Edit) (sheet : Sheet) (task : ℕ) : Type 0 where
  -- of each job, in both directions
  pub numbers : (dir : Dir) (job : Job) → number_of dir (edited edit sheet) (sheet_level task) job ≡ number_of dir sheet (sheet_level task) job
  -- those of the analysed jobs, in order
  pub bounds : all_bounds (edited edit sheet) (sheet_level task) ≡ all_bounds sheet (sheet_level task)

-- it does so for each task that it doesn't make stale
abbrev pub EditsKeepNumbers : Type 0
EditsKeepNumbers = (edit : Edit) (sheet : Sheet) (task : ℕ) → makes_stale edit task ≡ false → KeepsNumbers edit sheet task

-- ---- scripts

-- what is needed to go through a script line by line
pub record ScriptsGoByLines : Type 0 where
  -- an edit leaves the number of tasks
  pub tasks : (edit : Edit) (sheet : Sheet) → length (edited edit sheet).tasks ≡ length sheet.tasks
  -- at most all tasks are stale
  pub few : (session : SessionState) → length (stale_tasks session) ≤ length session.sheet.tasks
  -- and none after a refresh
  pub fresh : (session : SessionState) (task : ℕ) → task < length session.sheet.tasks → is_fresh (refreshed session) task ≡ true
  -- a sheet is printed at each print
  pub prints : (sheet : Sheet) (lines : List Line) → length (sheets_printed sheet lines) ≡ print_count lines
