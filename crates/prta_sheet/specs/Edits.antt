-- Edits of a sheet: one table of a task's cycle, its deadline, or its allowance.
use Rattle.std.specs.Prelude.{◌≡◌, ℕ, ◌≤◌, Bool, false, nat_le, Option, Some, option_map, List, length, slice_set}
use Rattle.prta_mass.specs.Table.{or_else, when}
use Rattle.prta_sheet.specs.declared.edit.Edit.{Edit}
use Rattle.prta_sheet.specs.declared.edit.Edit.TheVariants.{Table, Deadline, Allow}
use Rattle.prta_sheet.specs.declared.edit.EditFault.{EditFault}
use Rattle.prta_sheet.specs.declared.edit.EditFault.TheVariants.{NoTable, Refused}
use Rattle.prta_sheet.specs.declared.fault.SheetFault.{SheetFault}
use Rattle.prta_sheet.specs.Sheet.{Task, Sheet, task_at, hyperperiod}
use Rattle.prta_sheet.specs.Job.{jobs_before}
use Rattle.prta_sheet.specs.SheetConditions.{part_fault}
use Rattle.prta_sheet.specs.Refusal.{number_of}

-- the task that an edit changes
abbrev pub task_of : Edit → ℕ
task_of (Table task index table) = task
task_of (Deadline task value) = task
task_of (Allow task p q) = task

-- that task, changed
abbrev pub edited_task : Edit → Task → Task
edited_task (Table i index table) task = record task { cycle = slice_set task.cycle index table }
edited_task (Deadline i value) task = record task { deadline = value }
edited_task (Allow i p q) task = record task { allow = (p, q) }

abbrev pub edited_tasks : Edit → List Task → List Task
edited_tasks edit tasks = slice_set tasks (task_of edit) (edited_task edit (task_at tasks (task_of edit)))

abbrev pub edited : Edit → Sheet → Sheet
edited edit sheet = record sheet { tasks = edited_tasks edit sheet.tasks }

-- the edit is one of a table that the cycle hasn't
abbrev pub lacks_table : Edit → Task → Bool
lacks_table (Table i index table) task = nat_le (length task.cycle) index
lacks_table (Deadline i value) task = false
lacks_table (Allow i p q) task = false

-- why an edit is refused: the cycle lacks the table, or else the first condition on a sheet that the edited one fails
abbrev pub edit_fault : Edit → Sheet → Option EditFault
edit_fault edit sheet =
    or_else (when (lacks_table edit (task_at sheet.tasks (task_of edit))) NoTable)
    (option_map (λ fault. Refused (number_of fault)) (part_fault (edited edit sheet)))

-- an edit leaves the hyperperiod and all jobs as they are
pub record KeepsJobs (edit : Edit) (tasks : List Task) : Type 0 where
  pub same_hyperperiod : hyperperiod (edited_tasks edit tasks) ≡ hyperperiod tasks
  pub same_jobs : (t : ℕ) → jobs_before (edited_tasks edit tasks) t ≡ jobs_before tasks t

abbrev pub EditsKeepJobs : Type 0
EditsKeepJobs = (edit : Edit) (tasks : List Task) → KeepsJobs edit tasks

-- the conditions that a sheet of given parts can fail are those of the numbers 7 to 16
abbrev pub PartFaultsAreNumbered : Type 0
PartFaultsAreNumbered = (sheet : Sheet) (fault : SheetFault) → part_fault sheet ≡ Some fault → (7 ≤ number_of fault) × (number_of fault ≤ 16)
