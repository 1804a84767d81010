use Rattle.prta_dist.proofs.Breaks.{unbroken}
use Rattle.prta_dist.proofs.laws.unbroken_dominates.Goals as goal

pub returns : goal.returns
returns c = unbroken
