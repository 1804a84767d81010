use Rattle.prta_stair.proofs.Sweeps.{Swept}
use Rattle.prta_stair.proofs.adding.sweep.Given as goal

-- the steps so far make the list up to the place of the next mark
abbrev pub invariant-loop-j : goal.invariant-loop-j
invariant-loop-j l = Swept l.dir l.divisor.total l.marks l.first l.j l.sum l.count l.last l.rounded l.to
