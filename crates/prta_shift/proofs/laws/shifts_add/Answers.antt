use Rattle.prta_shift.proofs.Shifts.{shift_again}
use Rattle.prta_shift.proofs.laws.shifts_add.Goals as goal

pub returns : goal.returns
returns c = shift_again
