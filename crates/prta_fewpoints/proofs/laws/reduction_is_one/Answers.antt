use Rattle.prta_fewpoints.proofs.Reduction.{one_reduction}
use Rattle.prta_fewpoints.proofs.laws.reduction_is_one.Goals as goal

pub returns : goal.returns
returns c = one_reduction
