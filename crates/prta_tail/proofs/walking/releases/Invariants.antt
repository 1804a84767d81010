-- the jobs of the tasks so far are released
use Rattle.std.proofs.Common.{filter, take}
use Rattle.prta_sheet.specs.Job.{released_at, table_of}
use Rattle.prta_jobs.specs.TaskSet.{holds}
use Rattle.prta_tail.specs.Walk.{WalkNumber, IsWalk, after_releases}
use Rattle.prta_tail.proofs.walking.releases.Given as goal

abbrev pub invariant-loop-i : goal.invariant-loop-i
invariant-loop-i l =
    (walk : WalkNumber) → IsWalk walk l.fn.number →
    IsWalk (after_releases l.ratio (table_of l.tasks) (filter (λ job. holds l.set job.task) (released_at 0 (take l.i l.tasks) l.at)) walk) l.after
