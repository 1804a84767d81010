-- the cells so far are those of the shift
use Rattle.std.proofs.Common.{◌≡◌, ℕ, ◌+◌, ◌<◌, get_or}
use Rattle.prta_mass.specs.Chances.{at}
use Rattle.prta_shift.proofs.shift.shift_into.Given as goal

abbrev pub invariant-loop-k : goal.invariant-loop-k
invariant-loop-k l = (i : ℕ) → i < l.k → get_or l.to i 0 ≡ at l.from (i + l.t)

abbrev pub invariant-loop-k-2 : goal.invariant-loop-k-2
invariant-loop-k-2 l = (i : ℕ) → i < l.k → get_or l.to i 0 ≡ at l.from (i + l.t)
