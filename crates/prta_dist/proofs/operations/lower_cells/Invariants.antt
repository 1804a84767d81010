use Rattle.std.proofs.Common.{◌≡◌, ℕ, ◌-◌, ◌<◌, ◌≤◌, nat_lt, if◌then◌else◌, get_or}
use Rattle.prta_mass.specs.Unit.{unit}
use Rattle.prta_mass.specs.Chances.{at}
use Rattle.prta_dist.proofs.operations.lower_cells.Given as goal

-- the cells so far are lowered, and the others are as they were
abbrev pub invariant-loop-k : goal.invariant-loop-k
invariant-loop-k l = record {
  done : (j : ℕ) → j < l.k → get_or l.cells j 0 ≡ (if nat_lt j l.top then at l.initial.cells j - l.s else unit);
  kept : (j : ℕ) → l.k ≤ j → get_or l.cells j 0 ≡ get_or l.initial.cells j 0;
}
