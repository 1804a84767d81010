-- of the jobs so far
use Rattle.prta_jobs.specs.TaskSet.{holds}
use Rattle.prta_ticksim.proofs.BacklogSteps.{IsBacklogSoFar}
use Rattle.prta_ticksim.proofs.backlog.backlog_at.Given as goal

abbrev pub invariant-loop-k : goal.invariant-loop-k
invariant-loop-k l = IsBacklogSoFar l.jobs l.times (λ e. holds l.level e.job.task) l.time l.k l.backlog l.since
