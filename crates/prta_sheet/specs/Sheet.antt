-- Sheets: tasks from highest priority to lowest, and the settings of their analysis.
use Rattle.std.specs.Prelude.{ℕ, ◌+◌, ◌*◌, ◌%◌, nat_eq, List, fold, slice_index_or, [], length}
use Rattle.std.specs.List.{position_or_len, range_with_len}
use Rattle.prta_mass.specs.Table.{Table}
use Rattle.prta_sheet.specs.declared.settings.Settings.{Settings}

pub record Task : Type 0 where
  pub name : List ℕ
  pub offset : ℕ
  pub period : ℕ
  pub deadline : ℕ
  -- the tables of the jobs, in turn: job k has the table of number k modulo their count
  pub cycle : List Table
  pub allow : ℕ × ℕ

-- the tasks stand from highest priority to lowest, and are counted from 0
pub record Sheet : Type 0 where
  pub settings : Settings
  pub tasks : List Task

-- the task of a number; past the sheet, a task without times
abbrev pub task_at : List Task → ℕ → Task
task_at tasks i = slice_index_or tasks i (record { name = []; offset = 0; period = 1; deadline = 0; cycle = []; allow = (0, 1) })

-- the order of priorities that a sheet states: the numbers of its tasks
abbrev pub sheet_order : List Task → List ℕ
sheet_order tasks = range_with_len 0 (length tasks)

-- the least positive multiple of a that b divides
abbrev pub least_common_multiple : ℕ → ℕ → ℕ
least_common_multiple a b = a * (1 + position_or_len (λ k. nat_eq (a * (1 + k) % b) 0) (range_with_len 0 b))

-- the table of the job of this number; no times where the cycle has no table
abbrev pub table_in : Task → ℕ → Table
table_in task number = slice_index_or task.cycle (number % length task.cycle) []

-- the ticks until a task's releases and tables repeat: its period for each table of its cycle
abbrev pub cycle_ticks : Task → ℕ
cycle_ticks task = task.period * length task.cycle

-- H, the least common multiple, over the tasks, of the period times the length of the cycle
abbrev pub hyperperiod : List Task → ℕ
hyperperiod tasks = fold (λ a task. least_common_multiple a (cycle_ticks task)) 1 tasks

-- the analysed jobs are those released before this time
abbrev pub horizon : Sheet → ℕ
horizon sheet = sheet.settings.hyperperiods * hyperperiod sheet.tasks
