-- of the jobs so far
use Rattle.prta_jobs.specs.TaskSet.{holds}
use Rattle.prta_ticksim.proofs.BacklogSteps.{IsDelayedSoFar}
use Rattle.prta_ticksim.proofs.backlog.delayed.Given as goal

abbrev pub invariant-loop-k : goal.invariant-loop-k
invariant-loop-k l = IsDelayedSoFar l.jobs l.times (λ e. holds l.above e.job.task) l.from l.backlog l.k l.ticks
