-- the cells before k are merged, and the others stay
use Rattle.std.proofs.Common.{◌≡◌, ℕ, ◌+◌, ◌<◌, ◌≤◌, get_or}
use Rattle.prta_preempt.proofs.splits.merge.Given as goal

abbrev pub invariant-loop-k : goal.invariant-loop-k
invariant-loop-k l = record {
  early : (i : ℕ) → i ≤ l.d → get_or l.cells i 0 ≡ get_or l.fn.cells i 0;
  late : (i : ℕ) → l.d < i → i < l.k → get_or l.cells i 0 ≡ get_or l.fn.cells l.d 0 + get_or l.tail i 0;
}
