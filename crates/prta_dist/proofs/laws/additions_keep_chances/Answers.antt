use Rattle.prta_dist.proofs.Chances.{keep_chances}
use Rattle.prta_dist.proofs.laws.additions_keep_chances.Goals as goal

pub returns : goal.returns
returns c = keep_chances
