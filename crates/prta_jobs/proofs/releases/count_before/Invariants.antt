-- the jobs of the tasks so far
use Rattle.std.proofs.Common.{◌≡◌, ◌*◌, ◌≤◌, take, sum_by}
use Rattle.prta_sheet.specs.Counts.{releases}
use Rattle.prta_jobs.proofs.releases.count_before.Given as goal

abbrev pub invariant-loop-task : goal.invariant-loop-task
invariant-loop-task l = (l.count ≡ sum_by (λ task. releases task l.time) (take l.task-index l.tasks)) × (l.count ≤ l.time * l.task-index)
