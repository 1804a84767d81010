use Rattle.prta_preempt.proofs.Tails.{by_splitting}
use Rattle.prta_preempt.proofs.laws.delays_by_splitting.Goals as goal

pub returns : goal.returns
returns c = by_splitting
