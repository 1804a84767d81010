-- the walk before the last instant is over, and the next instant
use Rattle.std.proofs.Common.{◌+◌, ◌-◌, ◌*◌, ◌≤◌}
use Rattle.std.specs.Prelude.{unwrap_or}
use Rattle.prta_jobs.specs.TaskSet.{holds}
use Rattle.prta_jobs.specs.Instant.{IsInstant}
use Rattle.prta_backlog.specs.Level.{has_task}
use Rattle.prta_backlog.specs.Pass.{level_of, after_last}
use Rattle.prta_backlog.proofs.Walks.{IsWalked}
use Rattle.prta_backlog.proofs.greatest.walk_through.Given as goal

abbrev pub invariant-loop-instant : goal.invariant-loop-instant
invariant-loop-instant l = record {
  next : IsInstant l.sheet.tasks (has_task (level_of l.higher l.task)) (after_last l.walk.last) l.instant.at (holds l.instant.released);
  walked : IsWalked l.sheet.tasks (level_of l.higher l.task) l.start (after_last l.walk.last) l.walk.backlog (unwrap_or l.walk.last 0) l.walk.most l.walk.work;
  within : after_last l.walk.last ≤ l.end;
  low : l.walk.backlog ≤ l.start + 12000000 * after_last l.walk.last;
  low_work : l.walk.work ≤ 12000000 * after_last l.walk.last;
}

abbrev pub decreases-loop-instant : goal.decreases-loop-instant
decreases-loop-instant l = l.end - after_last l.walk.last
