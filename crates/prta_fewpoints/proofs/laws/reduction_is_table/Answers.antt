use Rattle.prta_fewpoints.proofs.Made.{reduced_table}
use Rattle.prta_fewpoints.proofs.laws.reduction_is_table.Goals as goal

pub returns : goal.returns
returns c = reduced_table
