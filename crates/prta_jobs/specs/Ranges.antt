-- The ranges of a sheet's tasks, in which no time is too large.
use Rattle.std.specs.Prelude.{◌<◌, ◌≤◌, List, length, All}
use Rattle.prta_sheet.specs.declared.limits.TheConstants.{TASK_LIMIT, PERIOD_LIMIT}
use Rattle.prta_sheet.specs.Sheet.{Task}

-- a task that releases its first job before its first period ends, and has a period within the limit
pub record HasShortPeriod (task : Task) : Type 0 where
  pub offset : task.offset < task.period
  pub period : task.period ≤ PERIOD_LIMIT

-- what the tasks of every sheet meet
pub record AreSheetTasks (tasks : List Task) : Type 0 where
  pub some : 1 ≤ length tasks
  pub few : length tasks ≤ TASK_LIMIT
  pub each : All HasShortPeriod tasks
