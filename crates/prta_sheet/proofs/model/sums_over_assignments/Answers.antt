use Rattle.prta_sheet.proofs.Weighing.{sums}
use Rattle.prta_sheet.proofs.model.sums_over_assignments.Goals as goal

pub returns : goal.returns
returns c = sums
