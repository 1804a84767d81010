use Rattle.std.proofs.Common.{◌∙◌, length, take, ap}
use Rattle.prta_stair.specs.Steps.{Steps, cells_by_steps}
use Rattle.prta_stair.proofs.Storing.{front_now}
use Rattle.prta_stair.proofs.stair.StairCurve.front.Goals as goal

pub returns : goal.returns
returns c =
    c.write_front.ensures
    ∙ ap (λ (xs : Steps). cells_by_steps (length c.args.room.now) (take c.self.inside.count xs)) c.deref.ensures.value
    ∙ front_now c.self.inside.steps.items c.self.inside.spare.items c.self.inside.marks.items c.self.inside.count c.args.self.now c.self.invariant c.self.view_is (length c.args.room.now) c.requires
