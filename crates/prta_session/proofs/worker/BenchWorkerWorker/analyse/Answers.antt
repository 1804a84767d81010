use Rattle.std.proofs.Common.{◌≡◌, ℕ, Bool, nat_lt, List, ap, ◌∙◌}
use Rattle.std.proofs.Math.Path.{fun_ext}
use Rattle.prta_sheet.specs.Sheet.{Sheet}
use Rattle.prta_jobs.specs.TaskSet.{holds}
use Rattle.prta_backlog.specs.Level.{sheet_level}
use Rattle.prta_backlog.specs.Pass.{level_of}
use Rattle.prta_dual.specs.declared.bounds.Bounds.{Bounds}
use Rattle.prta_dual.specs.Numbers.{all_bounds}
use Rattle.prta_session.proofs.worker.BenchWorkerWorker.analyse.Goals as goal

pub analyse_task-requires-clause-room : goal.analyse_task-requires-clause-room
analyse_task-requires-clause-room g c = c.entries_are_countable.ensures c.args.sheet.now c.tasks-tasks.ensures.accepted

-- the tasks before one are those below its number
below_is_before : (sheet : Sheet) (higher : List Bool) (task : ℕ) (found : List Bounds) → found ≡ all_bounds sheet (level_of higher task) → ((i : ℕ) → holds higher i ≡ nat_lt i task) →
    found ≡ all_bounds sheet (sheet_level task)
below_is_before sheet higher task found is members = is ∙ ap (λ (test : ℕ → Bool). all_bounds sheet (record { higher = test; own = task })) (fun_ext members)

pub returns-clause-numbers : goal.returns-clause-numbers
returns-clause-numbers g c =
    below_is_before c.args.sheet.now c.below-higher.result c.args.task c.analyse_task.new.found c.analyse_task.ensures.numbers c.below-higher.ensures.members
