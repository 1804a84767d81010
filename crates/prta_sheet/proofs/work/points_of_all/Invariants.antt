-- the points of the jobs of the tasks so far
use Rattle.std.proofs.Common.{◌≡◌, ◌*◌, ◌/◌, ◌^◌, ◌≤◌, take, sum_by}
use Rattle.prta_sheet.specs.Work.{points_of_first}
use Rattle.prta_sheet.proofs.work.points_of_all.Given as goal

abbrev pub invariant-loop-task : goal.invariant-loop-task
invariant-loop-task l = (l.points ≡ sum_by (λ task. points_of_first task (l.horizon / task.period)) (take l.task-index l.tasks)) × (l.points ≤ 2 ^ 31 * l.task-index)
