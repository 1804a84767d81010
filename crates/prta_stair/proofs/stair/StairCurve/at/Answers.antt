use Rattle.std.proofs.Common.{◌≡◌, ◌∙◌, take, ap, sym, arith}
use Rattle.prta_mass.specs.Chances.{at}
use Rattle.prta_dist.proofs.Cells.{at_limited}
use Rattle.prta_stair.specs.Steps.{Steps, value_at}
use Rattle.prta_stair.proofs.Storing.{values_now, chances_now}
use Rattle.prta_stair.proofs.stair.StairCurve.at.Goals as goal

pub returns-clause-value : goal.returns-clause-value
returns-clause-value c =
    c.value_of.ensures
    ∙ ap (λ (xs : Steps). value_at (take c.self.inside.count xs) c.args.k) c.deref.ensures.value
    ∙ sym (λ i. values_now c.self.inside.steps.items c.self.inside.spare.items c.self.inside.marks.items c.self.inside.count c.args.self.now c.self.invariant c.self.view_is i c.args.k)

pub returns-clause-low : goal.returns-clause-low
returns-clause-low c =
    let value : c.value_of.result ≡ at c.args.self.now c.args.k =
    c.value_of.ensures
    ∙ ap (λ (xs : Steps). value_at (take c.self.inside.count xs) c.args.k) c.deref.ensures.value
    ∙ sym (λ i. values_now c.self.inside.steps.items c.self.inside.spare.items c.self.inside.marks.items c.self.inside.count c.args.self.now c.self.invariant c.self.view_is i c.args.k) in
    omega (arith, value, at_limited c.args.self.now c.args.k (chances_now c.self.inside.steps.items c.self.inside.spare.items c.self.inside.marks.items c.self.inside.count c.args.self.now c.self.invariant c.self.view_is))
