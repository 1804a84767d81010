use Rattle.std.proofs.Common.{◌-◌, length, nat_lt, if◌then◌else◌, arith}
use Rattle.std.proofs.lemmas.List.FromFn.{fill_by_all}
use Rattle.prta_mass.specs.Unit.{unit}
use Rattle.prta_mass.specs.Chances.{at}
use Rattle.prta_dist.proofs.operations.lower_cells.Goals as goal

pub returns : goal.returns
returns c = fill_by_all (λ k. if nat_lt k c.args.top then at c.args.cells.now k - c.args.s else unit) c.loop-k.cells (length c.args.cells.now) 0 (omega arith) (λ k h. c.loop-k.invariant.done k (omega arith))
