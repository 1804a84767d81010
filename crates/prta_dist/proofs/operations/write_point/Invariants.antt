use Rattle.std.proofs.Common.{◌≡◌, ℕ, ◌<◌, nat_lt, if◌then◌else◌, get_or}
use Rattle.prta_mass.specs.Unit.{unit}
use Rattle.prta_dist.proofs.operations.write_point.Given as goal

-- the cells so far are the point's
abbrev pub invariant-loop-k : goal.invariant-loop-k
invariant-loop-k l = (j : ℕ) → j < l.k → get_or l.cells j 0 ≡ (if nat_lt j l.b then 0 else unit)
