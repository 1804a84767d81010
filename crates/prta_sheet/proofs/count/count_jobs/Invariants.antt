-- the jobs of the tasks so far
use Rattle.std.proofs.Common.{◌≡◌, ◌*◌, ◌/◌, ◌≤◌, take, sum_by}
use Rattle.prta_sheet.proofs.count.count_jobs.Given as goal

abbrev pub invariant-loop-task : goal.invariant-loop-task
invariant-loop-task l = (l.jobs ≡ sum_by (λ task. l.horizon / task.period) (take l.task-index l.tasks)) × (l.jobs ≤ l.horizon * l.task-index)
