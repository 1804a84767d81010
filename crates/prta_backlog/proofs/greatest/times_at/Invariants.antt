-- the greatest times of the jobs of the tasks so far
use Rattle.std.proofs.Common.{◌≡◌, ◌*◌, ◌≤◌, filter, take}
use Rattle.prta_sheet.specs.Job.{released_at}
use Rattle.prta_jobs.specs.TaskSet.{holds}
use Rattle.prta_backlog.specs.Greatest.{greatest_times}
use Rattle.prta_backlog.proofs.greatest.times_at.Given as goal

abbrev pub invariant-loop-i : goal.invariant-loop-i
invariant-loop-i l =
    (l.times ≡ greatest_times l.tasks (filter (λ job. holds l.set job.task) (released_at 0 (take l.i l.tasks) l.at)))
    × (l.times ≤ 1000000 * l.i)
