-- the tasks so far
use Rattle.std.proofs.Common.{◌≡◌, ℕ, nat_lt, length}
use Rattle.prta_sheet.specs.declared.limits.TheConstants.{TASK_LIMIT}
use Rattle.prta_jobs.specs.TaskSet.{holds}
use Rattle.prta_jobs.proofs.task_set.TaskSet.below.Given as goal

abbrev pub invariant-loop-task : goal.invariant-loop-task
invariant-loop-task l = ((i : ℕ) → holds l.set i ≡ nat_lt i l.task) × (length l.set ≡ TASK_LIMIT)
