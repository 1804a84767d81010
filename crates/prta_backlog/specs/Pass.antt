-- A pass: a level run that is made step by step.
use Rattle.std.specs.Prelude.{◌≡◌, ℕ, ◌+◌, Option, Some, None, Bool, is_some, unwrap_or, if◌then◌else◌, List, length}
use Rattle.prta_mass.specs.declared.direction.Dir.{Dir}
use Rattle.prta_mass.specs.declared.support.Support.{Support}
use Rattle.prta_sheet.specs.Sheet.{Task, Sheet}
use Rattle.prta_jobs.specs.TaskSet.{holds}
use Rattle.prta_jobs.specs.Instant.{IsLeastRelease}
use Rattle.prta_ledger.specs.declared.entry.Entry.{Entry}
use Rattle.prta_backlog.specs.Level.{Level, has_task}
use Rattle.prta_backlog.specs.LevelRun.{RunState, after_instant, level_run}
use Rattle.prta_backlog.specs.Entries.{Operation, operations_of, operations, noted_at, level_entries}

-- the higher tasks and the own task, the direction, whether it re-samples at the sheet's support, the last instant or none, and the number of operations made
pub record PassState : Type 0 where
  pub higher : List Bool
  pub task : ℕ
  pub dir : Dir
  pub resamples : Bool
  pub last : Option ℕ
  pub made : ℕ

-- the level of some higher tasks and a task
abbrev pub level_of : List Bool → ℕ → Level
level_of higher task = record { higher = holds higher; own = task }

abbrev pub pass_level : PassState → Level
pass_level pass = level_of pass.higher pass.task

-- the support at which it re-samples
abbrev pub pass_support : Sheet → PassState → Option Support
pass_support sheet pass = if pass.resamples then sheet.settings.support else None

-- the time just after the last instant, or 0
abbrev pub after_last : Option ℕ → ℕ
after_last None = 0
after_last (Some t) = t + 1

-- the run that stands after its last instant with these cells
abbrev pub pass_run : PassState → List ℕ → RunState
pass_run pass cells = record { cells = cells; since = unwrap_or pass.last 0; begun = is_some pass.last }

-- its operations at an instant, their entries, and the cells after it
abbrev pub pass_operations : Sheet → PassState → List ℕ → ℕ → List Operation
pass_operations sheet pass cells t = operations_of pass.dir sheet.tasks (pass_level pass) (pass_support sheet pass) (pass_run pass cells) t

abbrev pub pass_entries : Sheet → PassState → List ℕ → ℕ → List Entry
pass_entries sheet pass cells t = noted_at pass.dir sheet.tasks (pass_level pass) t (1 + pass.made) (pass_operations sheet pass cells t)

abbrev pub pass_cells : Sheet → PassState → List ℕ → ℕ → List ℕ
pass_cells sheet pass cells t = (after_instant pass.dir sheet.tasks (pass_level pass) (pass_support sheet pass) (pass_run pass cells) t).cells

-- the pass after an instant
abbrev pub pass_after : Sheet → PassState → List ℕ → ℕ → PassState
pass_after sheet pass cells t = record pass { last = Some t; made = pass.made + length (pass_operations sheet pass cells t) }

-- the pass with these cells stands in the level run from a list at time 0
pub record StandsInRun (sheet : Sheet) (start : List ℕ) (pass : PassState) (cells : List ℕ) : Type 0 where
  pub run : level_run pass.dir sheet.tasks (pass_level pass) (pass_support sheet pass) start 0 (after_last pass.last) ≡ pass_run pass cells
  pub made : length (operations pass.dir sheet.tasks (pass_level pass) (pass_support sheet pass) start (after_last pass.last)) ≡ pass.made

-- the entries of the level run up to where the pass stands
abbrev pub entries_so_far : Sheet → List ℕ → PassState → List Entry
entries_so_far sheet start pass = level_entries pass.dir sheet.tasks (pass_level pass) (pass_support sheet pass) start (after_last pass.last)

-- an instant that follows its last one
abbrev pub IsNext : List Task → PassState → ℕ → Type 0
IsNext tasks pass t = IsLeastRelease tasks (has_task (pass_level pass)) (after_last pass.last) t
