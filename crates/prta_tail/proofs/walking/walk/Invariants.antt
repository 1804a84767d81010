-- the walk up to a tick, and the next instant from it on
use Rattle.prta_jobs.specs.TaskSet.{holds}
use Rattle.prta_jobs.specs.Instant.{IsInstant}
use Rattle.prta_backlog.specs.Level.{has_task}
use Rattle.prta_backlog.specs.Pass.{level_of}
use Rattle.prta_tail.specs.Walk.{IsWalk, walk_to}
use Rattle.prta_tail.proofs.walking.walk.Given as goal

abbrev pub invariant-loop-t : goal.invariant-loop-t
invariant-loop-t l = record {
  next : IsInstant l.sheet.tasks (has_task (level_of l.higher l.task)) l.t l.instant.at (holds l.instant.released);
  walk : IsWalk (walk_to l.sheet.tasks (level_of l.higher l.task) l.ratio l.t) l.number;
}
