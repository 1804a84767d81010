-- the stale tasks so far are analysed, and all tasks so far are marked
use Rattle.std.proofs.Common.{◌≡◌, ◌+◌, ◌≤◌, ◌<◌, ℕ, true, length}
use Rattle.prta_session.specs.Kept.{AreKept, is_marked, unmarked}
use Rattle.prta_session.specs.Workers.{lengthened}
use Rattle.prta_session.proofs.kept.analyse_stale.Given as goal

abbrev pub invariant-loop-task : goal.invariant-loop-task
invariant-loop-task g l = record {
  kept : AreKept l.sheet l.fresh l.found;
  marked : (i : ℕ) → i < l.task → is_marked l.fresh i ≡ true;
  left : (i : ℕ) → l.task ≤ i → is_marked l.fresh i ≡ is_marked l.initial.fresh i;
  told : g.W.Worker.analysed l.worker ≡ lengthened (g.W.Worker.analysed l.initial.worker) (unmarked l.initial.fresh l.task);
  cap : g.W.Worker.cap l.worker ≡ g.W.Worker.cap l.initial.worker;
  room : g.W.Worker.room l.initial.worker ≤ g.W.Worker.room l.worker + length (unmarked l.initial.fresh l.task);
}
