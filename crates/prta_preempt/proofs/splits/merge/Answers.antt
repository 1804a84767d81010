use Rattle.std.proofs.Common.{arith}
use Rattle.prta_preempt.proofs.CellByCell.{is_merged}
use Rattle.prta_preempt.proofs.splits.merge.Goals as goal

pub returns : goal.returns
returns c =
    is_merged c.args.d c.args.cells.now c.loop-k.cells c.args.tail.now (omega arith) (omega arith) c.requires.place c.loop-k.invariant.early (λ i late h. c.loop-k.invariant.late i late (omega arith))
