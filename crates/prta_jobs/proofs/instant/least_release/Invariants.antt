-- of the tasks so far
use Rattle.prta_jobs.specs.TaskSet.{holds}
use Rattle.prta_jobs.proofs.Levels.{IsLeastSoFar}
use Rattle.prta_jobs.proofs.instant.least_release.Given as goal

abbrev pub invariant-loop-i : goal.invariant-loop-i
invariant-loop-i l = IsLeastSoFar l.tasks (holds l.level) l.from l.i l.least
