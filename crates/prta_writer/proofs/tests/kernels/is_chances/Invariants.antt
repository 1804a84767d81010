use Rattle.std.proofs.Common.{ℕ, ◌<◌, ◌≤◌, get_or}
use Rattle.prta_mass.specs.Unit.{unit}
use Rattle.prta_writer.proofs.tests.kernels.is_chances.Given as goal

-- the cells so far don't fall, and are at most the last of them and the unit
abbrev pub invariant-loop-k : goal.invariant-loop-k
invariant-loop-k l = record {
  rising : (i j : ℕ) → i ≤ j → j < l.k → get_or l.cells i 0 ≤ get_or l.cells j 0;
  under : (j : ℕ) → j < l.k → get_or l.cells j 0 ≤ l.below;
  low : (j : ℕ) → j < l.k → get_or l.cells j 0 ≤ unit;
}
