use Rattle.prta_preempt.proofs.Tails.{keep_chances}
use Rattle.prta_preempt.proofs.laws.delays_keep_chances.Goals as goal

pub returns : goal.returns
returns c = keep_chances
