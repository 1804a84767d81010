-- the cells so far are those of the shift
use Rattle.std.proofs.Common.{◌≡◌, ℕ, ◌+◌, ◌<◌, get_or}
use Rattle.prta_mass.specs.Chances.{at}
use Rattle.prta_shift.proofs.shift.shift_cells.Given as goal

abbrev pub invariant-loop-k : goal.invariant-loop-k
invariant-loop-k l = (i : ℕ) → i < l.k → get_or l.cells i 0 ≡ at l.fn.cells (i + l.t)
