use Rattle.std.proofs.Common.{◌+◌, ◌-◌, arith}
use Rattle.prta_dist.proofs.Cells.{still_cells}
use Rattle.prta_preempt.proofs.window.still_start.Goals as goal

pub returns-then-tail-k-clause-still : goal.returns-then-tail-k-clause-still
returns-then-tail-k-clause-still c = still_cells c.args.tail.now (c.loop-k.k - 1 + 1) (λ k low inside. c.loop-k.invariant k (omega arith) inside)

pub returns-clause-still : goal.returns-clause-still
returns-clause-still c = still_cells c.args.tail.now c.args.lo (λ k low inside. c.loop-k.invariant k (omega arith) inside)
