use Rattle.prta_shift.proofs.Shifts.{shifts_chances, reads_later}
use Rattle.prta_shift.proofs.laws.shifts_keep_chances.Goals as goal

pub returns-clause-kept : goal.returns-clause-kept
returns-clause-kept c = shifts_chances

pub returns-clause-later : goal.returns-clause-later
returns-clause-later c = reads_later
