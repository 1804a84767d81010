-- the tasks so far are marked no more
use Rattle.std.proofs.Common.{◌≡◌, ◌&&◌, ℕ, not, nat_le, nat_lt, length}
use Rattle.prta_session.specs.Kept.{is_marked}
use Rattle.prta_session.proofs.kept.mark_stale.Given as goal

abbrev pub invariant-loop-task : goal.invariant-loop-task
invariant-loop-task l = record {
  size : length l.fresh ≡ length l.initial.fresh;
  marks : (i : ℕ) → is_marked l.fresh i ≡ (is_marked l.initial.fresh i && not (nat_le l.from i && nat_lt i l.task));
}
