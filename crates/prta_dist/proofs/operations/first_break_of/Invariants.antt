use Rattle.std.proofs.Common.{◌≡◌, ℕ, ◌<◌, false}
use Rattle.prta_dist.specs.Curve.{breaks_at}
use Rattle.prta_dist.proofs.operations.first_break_of.Given as goal

-- no place so far is a break
abbrev pub invariant-loop-k : goal.invariant-loop-k
invariant-loop-k l = (j : ℕ) → j < l.k → breaks_at l.cells l.image j ≡ false
