use Rattle.std.proofs.Common.{arith}
use Rattle.prta_shift.proofs.Shifts.{is_shifted}
use Rattle.prta_shift.proofs.shift.shift_into.Goals as goal

pub returns : goal.returns
returns c = is_shifted c.args.t c.args.from.now c.loop-k-2.to (omega arith) (λ k low. c.loop-k-2.invariant k (omega arith))
