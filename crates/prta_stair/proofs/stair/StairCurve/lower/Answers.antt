use Rattle.std.proofs.Common.{length, ap, arith}
use Rattle.prta_stair.proofs.Storing.{size_now}
use Rattle.prta_stair.proofs.stair.StairCurve.lower.Goals as goal

pub lower_steps-count-requires-clause-top : goal.lower_steps-count-requires-clause-top
lower_steps-count-requires-clause-top c =
    omega (arith, c.requires, ap length c.deref_mut.ensures.value, c.self.invariant.room, size_now c.self.inside.steps.items c.self.inside.spare.items c.self.inside.marks.items c.self.inside.count c.args.self.now c.self.invariant c.self.view_is)
