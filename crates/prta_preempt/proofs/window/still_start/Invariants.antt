-- the cells from here on are the last one's
use Rattle.std.proofs.Common.{◌≡◌, ℕ, ◌<◌, ◌≤◌, length, get_or}
use Rattle.prta_preempt.proofs.window.still_start.Given as goal

abbrev pub invariant-loop-k : goal.invariant-loop-k
invariant-loop-k l = (j : ℕ) → l.k ≤ j → j < length l.tail → get_or l.tail j 0 ≡ get_or l.tail l.end 0
