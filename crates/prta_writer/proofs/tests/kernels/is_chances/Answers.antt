use Rattle.std.proofs.Common.{arith}
use Rattle.prta_dist.proofs.Cells.{chances_by}
use Rattle.prta_writer.proofs.tests.kernels.is_chances.Goals as goal

pub returns : goal.returns
returns c _ = chances_by c.args.cells.now (λ i k le h. c.loop-k.invariant.rising i k le (omega arith)) (λ k h. c.loop-k.invariant.low k (omega arith))
