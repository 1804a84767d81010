use Rattle.std.proofs.Common.{◌<◌, ◌+◌, length, arith}
use Rattle.prta_stair.proofs.Marks.{first_zero}
use Rattle.prta_stair.proofs.Additions.{sum_fits}
use Rattle.prta_stair.proofs.marking.mark_all.Goals as goal

pub loop-i-init : goal.loop-i-init
loop-i-init c j h = first_zero c.clear.new.marks (j + 1) (λ k l. c.clear.ensures k (omega (arith, l, c.clear.auto.marks))) (omega (arith, h, c.clear.auto.marks))

pub mark-requires-clause-fits : goal.mark-requires-clause-fits
mark-requires-clause-fits c j h =
    let inside : j < length c.args.marks.now = omega (arith, h, c.loop-i.auto.marks, c.clear.auto.marks) in
    omega (arith, c.loop-i.invariant j inside, sum_fits (c.args.first + length c.args.marks.now) c.args.steps.now c.args.points.now (c.args.first + j) c.loop-i.i c.requires.steps c.requires.limited c.loop-i-test.true)
