-- the cells so far are those of the tail
use Rattle.std.proofs.Common.{◌≡◌, ℕ, ◌-◌, ◌<◌, ◌≤◌, get_or}
use Rattle.prta_preempt.proofs.splits.split.Given as goal

abbrev pub invariant-loop-k : goal.invariant-loop-k
invariant-loop-k l = (i : ℕ) → i < l.k → get_or l.tail i 0 ≡ 0

abbrev pub invariant-loop-k-2 : goal.invariant-loop-k-2
invariant-loop-k-2 l = record {
  early : (i : ℕ) → i ≤ l.d → get_or l.tail i 0 ≡ 0;
  late : (i : ℕ) → l.d < i → i < l.k → get_or l.tail i 0 ≡ get_or l.cells i 0 - get_or l.cells l.d 0;
}
