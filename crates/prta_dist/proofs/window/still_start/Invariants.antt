use Rattle.std.proofs.Common.{◌≡◌, ℕ, ◌<◌, ◌≤◌, length, get_or}
use Rattle.prta_dist.proofs.window.still_start.Given as goal

-- the cells from here on are the last one's
abbrev pub invariant-loop-k : goal.invariant-loop-k
invariant-loop-k l = (j : ℕ) → l.k ≤ j → j < length l.cells → get_or l.cells j 0 ≡ l.last
