use Rattle.std.proofs.Common.{◌≡◌, ℕ, ◌<◌, get_or}
use Rattle.prta_dist.proofs.window.zero_end.Given as goal

-- the cells so far are 0
abbrev pub invariant-loop-k : goal.invariant-loop-k
invariant-loop-k l = (j : ℕ) → j < l.k → get_or l.cells j 0 ≡ 0
