use Rattle.std.proofs.Common.{◌+◌, arith}
use Rattle.prta_convlane.specs.Limbs.{high_half, low_half}
use Rattle.prta_convlane.proofs.Limbs.{half_fits, high_half_most, low_half_most, weight_most}
use Rattle.prta_convlane.proofs.halves.half_sums.Goals as goal

pub plus_pair-requires-clause-small : goal.plus_pair-requires-clause-small
plus_pair-requires-clause-small c = omega (arith, weight_most c.args.points.now c.loop-point.point-index c.loop-point-test.true, c.requires.small)

pub plus_pair-requires-clause-high_fits : goal.plus_pair-requires-clause-high_fits
plus_pair-requires-clause-high_fits c j below =
    rw (c.loop-point.invariant.high_is j below)
    (half_fits high_half high_half_most c.args.points.now c.args.from.now (c.args.k + j) c.loop-point.point-index c.requires.chances c.requires.small c.loop-point-test.true)

pub plus_pair-requires-clause-low_fits : goal.plus_pair-requires-clause-low_fits
plus_pair-requires-clause-low_fits c j below =
    rw (c.loop-point.invariant.low_is j below)
    (half_fits low_half low_half_most c.args.points.now c.args.from.now (c.args.k + j) c.loop-point.point-index c.requires.chances c.requires.small c.loop-point-test.true)
