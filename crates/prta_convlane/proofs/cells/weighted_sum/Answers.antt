use Rattle.std.proofs.Common.{◌^◌, arith}
use Rattle.std.proofs.Math.Facts.{Fits-below}
use Rattle.prta_convlane.proofs.Limbs.{more_fits}
use Rattle.prta_convlane.proofs.cells.weighted_sum.Goals as goal

pub overflow_add-sum : goal.overflow_add-sum
overflow_add-sum c =
    let fits = more_fits c.args.points.now c.args.from.now c.args.k c.loop-point.point-index c.requires.chances c.requires.limited c.loop-point-test.true c.if-time-k.true c.requires.place in
    Fits-below {n = 2 ^ 110} tt (omega (arith, fits, c.loop-point.invariant))
