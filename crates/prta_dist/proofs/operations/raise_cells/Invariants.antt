use Rattle.std.proofs.Common.{◌≡◌, ℕ, ◌<◌, ◌≤◌, get_or}
use Rattle.prta_dist.proofs.operations.raise_cells.Given as goal

-- the cells before the place are as they were, and those from it on so far are the value
abbrev pub invariant-loop-k : goal.invariant-loop-k
invariant-loop-k l = record {
  kept : (j : ℕ) → j < l.place → get_or l.cells j 0 ≡ get_or l.initial.cells j 0;
  done : (j : ℕ) → l.place ≤ j → j < l.k → get_or l.cells j 0 ≡ l.value;
}
