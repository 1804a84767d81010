-- the jobs before the time reached
use Rattle.std.proofs.Common.{◌≡◌, ◌-◌, ◌≤◌}
use Rattle.prta_sheet.specs.Job.{jobs_before}
use Rattle.prta_jobs.proofs.jobs.list_before.Given as goal

abbrev pub invariant-loop-since : goal.invariant-loop-since
invariant-loop-since l = (l.jobs.items ≡ jobs_before l.tasks l.since) × (l.since ≤ l.t)

abbrev pub decreases-loop-since : goal.decreases-loop-since
decreases-loop-since l = l.t - l.since
