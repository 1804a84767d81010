use Rattle.std.proofs.Common.{◌+◌, ◌*◌, ap, arith}
use Rattle.std.proofs.lemmas.List.{length-set}
use Rattle.prta_mass.specs.Unit.{unit}
use Rattle.prta_convlane.proofs.Limbs.{weighted_within}
use Rattle.prta_convlane.proofs.Progress.{done_quotient}
use Rattle.prta_convlane.proofs.rest.add_rest.Goals as goal

pub rounded_quotient-cell-requires : goal.rounded_quotient-cell-requires
rounded_quotient-cell-requires c =
    omega (arith, c.weighted_sum.ensures, weighted_within c.args.points.now c.args.from.now c.loop-k.k c.requires.chances, ap (λ w. w * unit) c.requires.whole)

pub loop-k-preserved : goal.loop-k-preserved
loop-k-preserved c = record {
  same = omega (arith, c.loop-k.invariant.same, length-set c.loop-k.to c.loop-k.k c.rounded_quotient-cell.result.0);
  done = done_quotient c.args.dir c.args.points.now c.args.from.now c.loop-k.to c.loop-k.k (c.loop-k.k + 1) c.rounded_quotient-cell.result.0 c.weighted_sum.result c.args.divisor.total c.loop-k.rounded c.rounded_quotient-cell.result.1
      c.loop-k-test.true c.loop-k.invariant.same (omega arith) c.weighted_sum.ensures c.requires.whole c.rounded_quotient-cell.ensures.cell c.rounded_quotient-cell.ensures.rest c.loop-k.invariant.done;
}
