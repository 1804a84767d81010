use Rattle.std.proofs.Common.{arith}
use Rattle.prta_dist.proofs.Cells.{still_cells}
use Rattle.prta_dist.proofs.window.still_start.Goals as goal

pub returns-clause-still : goal.returns-clause-still
returns-clause-still c = still_cells c.args.cells.now c.args.lo (λ k low inside. c.loop-k.invariant k (omega arith) inside)
