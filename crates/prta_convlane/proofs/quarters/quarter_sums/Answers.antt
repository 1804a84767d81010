use Rattle.std.proofs.Common.{◌+◌, arith}
use Rattle.prta_convlane.specs.Limbs.{top_quarter, high_quarter, middle_quarter, low_quarter}
use Rattle.prta_convlane.proofs.Limbs.{limb_more, quarter_fits, top_quarter_most, high_quarter_most, middle_quarter_most, low_quarter_most}
use Rattle.prta_convlane.proofs.quarters.quarter_sums.Goals as goal

pub plus_pair-sums-requires-clause-top_fits : goal.plus_pair-sums-requires-clause-top_fits
plus_pair-sums-requires-clause-top_fits c j below =
    rw (c.loop-point.invariant.top_is j below)
    (quarter_fits top_quarter top_quarter_most c.args.points.now c.args.from.now (c.args.k + j) c.loop-point.point-index c.requires.chances c.requires.limited c.loop-point-test.true)

pub plus_pair-sums-requires-clause-high_fits : goal.plus_pair-sums-requires-clause-high_fits
plus_pair-sums-requires-clause-high_fits c j below =
    rw (c.loop-point.invariant.high_is j below)
    (quarter_fits high_quarter high_quarter_most c.args.points.now c.args.from.now (c.args.k + j) c.loop-point.point-index c.requires.chances c.requires.limited c.loop-point-test.true)

pub plus_pair-sums-requires-clause-middle_fits : goal.plus_pair-sums-requires-clause-middle_fits
plus_pair-sums-requires-clause-middle_fits c j below =
    rw (c.loop-point.invariant.middle_is j below)
    (quarter_fits middle_quarter middle_quarter_most c.args.points.now c.args.from.now (c.args.k + j) c.loop-point.point-index c.requires.chances c.requires.limited c.loop-point-test.true)

pub plus_pair-sums-requires-clause-low_fits : goal.plus_pair-sums-requires-clause-low_fits
plus_pair-sums-requires-clause-low_fits c j below =
    rw (c.loop-point.invariant.low_is j below)
    (quarter_fits low_quarter low_quarter_most c.args.points.now c.args.from.now (c.args.k + j) c.loop-point.point-index c.requires.chances c.requires.limited c.loop-point-test.true)

pub loop-point-preserved : goal.loop-point-preserved
loop-point-preserved c = record {
  top_is = λ j below. omega (arith, c.plus_pair-sums.ensures.top j below, c.loop-point.invariant.top_is j below, limb_more top_quarter c.args.points.now c.args.from.now (c.args.k + j) c.loop-point.point-index c.loop-point-test.true);
  high_is = λ j below. omega (arith, c.plus_pair-sums.ensures.high j below, c.loop-point.invariant.high_is j below, limb_more high_quarter c.args.points.now c.args.from.now (c.args.k + j) c.loop-point.point-index c.loop-point-test.true);
  middle_is = λ j below. omega (arith, c.plus_pair-sums.ensures.middle j below, c.loop-point.invariant.middle_is j below, limb_more middle_quarter c.args.points.now c.args.from.now (c.args.k + j) c.loop-point.point-index c.loop-point-test.true);
  low_is = λ j below. omega (arith, c.plus_pair-sums.ensures.low j below, c.loop-point.invariant.low_is j below, limb_more low_quarter c.args.points.now c.args.from.now (c.args.k + j) c.loop-point.point-index c.loop-point-test.true);
}
