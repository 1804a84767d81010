use Rattle.prta_tail.proofs.Growing.{IsSummed}
use Rattle.prta_tail.proofs.growth.factor_of.Given as goal

abbrev pub invariant-loop-i : goal.invariant-loop-i
invariant-loop-i l = IsSummed l.ratio l.points l.i l.time l.growth l.sum
