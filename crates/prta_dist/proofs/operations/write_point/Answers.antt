use Rattle.std.proofs.Common.{length, nat_lt, if◌then◌else◌, arith}
use Rattle.std.proofs.lemmas.List.FromFn.{fill_by_all}
use Rattle.prta_mass.specs.Unit.{unit}
use Rattle.prta_dist.proofs.operations.write_point.Goals as goal

pub returns : goal.returns
returns c = fill_by_all (λ k. if nat_lt k c.args.b then 0 else unit) c.loop-k.cells (length c.args.cells.now) 0 (omega arith) (λ k h. c.loop-k.invariant k (omega arith))
