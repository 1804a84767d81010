use Rattle.std.proofs.Common.{arith}
use Rattle.prta_preempt.proofs.CellByCell.{is_tail}
use Rattle.prta_preempt.proofs.splits.split.Goals as goal

pub returns : goal.returns
returns c =
    is_tail c.args.d c.args.cells.now c.loop-k-2.tail (omega arith) c.requires.place c.loop-k-2.invariant.early (λ i late h. c.loop-k-2.invariant.late i late (omega arith))
