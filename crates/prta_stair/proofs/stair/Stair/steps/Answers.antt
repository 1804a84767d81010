use Rattle.std.proofs.Common.{◌∙◌, length, take, ap, sym, subst}
use Rattle.prta_stair.specs.Steps.{Steps, AreSteps}
use Rattle.prta_stair.proofs.Storing.{steps_now, are_now}
use Rattle.prta_stair.proofs.stair.Stair.steps.Goals as goal

pub returns-clause-steps : goal.returns-clause-steps
returns-clause-steps c =
    ap (take c.self.inside.count) c.deref.ensures.value ∙ steps_now c.self.inside.steps.items c.self.inside.spare.items c.self.inside.marks.items c.self.inside.count c.args.self.now c.self.invariant c.self.view_is

pub returns-clause-rising : goal.returns-clause-rising
returns-clause-rising c =
    subst (λ (xs : Steps). AreSteps (length c.args.self.now) (take c.self.inside.count xs)) (sym c.deref.ensures.value)
    (are_now c.self.inside.steps.items c.self.inside.spare.items c.self.inside.marks.items c.self.inside.count c.args.self.now c.self.invariant c.self.view_is)
