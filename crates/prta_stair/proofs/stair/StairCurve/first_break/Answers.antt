use Rattle.std.proofs.Common.{◌≡◌, ◌↔◌, ◌∙◌, None, List, ℕ, length, take, ap, sym, subst, arith}
use Rattle.prta_mass.specs.Chances.{Dominates}
use Rattle.prta_dist.specs.Curve.{first_break}
use Rattle.prta_dist.proofs.Breaks.{unbroken}
use Rattle.prta_stair.specs.Steps.{Steps, cells_by_steps}
use Rattle.prta_stair.specs.Reading.{AreBelow}
use Rattle.prta_stair.proofs.Storing.{size_now}
use Rattle.prta_stair.proofs.stair.StairCurve.first_break.Goals as goal

pub returns-clause-first : goal.returns-clause-first
returns-clause-first c =
    let cap : ℕ = length c.self.inside.steps.items in
    let mine : length c.args.self.now ≡ cap = size_now c.self.inside.steps.items c.self.inside.spare.items c.self.inside.marks.items c.self.inside.count c.args.self.now c.self.invariant c.self.view_is in
    let images : length c.args.image.now ≡ length c.image.inside.steps.items = size_now c.image.inside.steps.items c.image.inside.spare.items c.image.inside.marks.items c.image.inside.count c.args.image.now c.image.invariant c.image.view_is in
    let same : cap ≡ length c.image.inside.steps.items = omega (arith, mine, images, c.requires) in
    let under : AreBelow cap (take c.self.inside.count c.deref.result.now) = subst (λ (xs : Steps). AreBelow cap (take c.self.inside.count xs)) (sym c.deref.ensures.value) c.self.invariant.steps.below in
    c.first_break_of.ensures cap under
    ∙ ap (λ (xs : Steps). first_break (cells_by_steps cap (take c.self.inside.count xs)) (cells_by_steps cap (take c.image.inside.count c.deref-2.result.now))) c.deref.ensures.value
    ∙ ap (λ (cells : List ℕ). first_break cells (cells_by_steps cap (take c.image.inside.count c.deref-2.result.now))) c.self.view_is
    ∙ ap (first_break c.args.self.now) (ap (λ (xs : Steps). cells_by_steps cap (take c.image.inside.count xs)) c.deref-2.ensures.value ∙ ap (λ n. cells_by_steps n (take c.image.inside.count c.image.inside.steps.items)) same ∙ c.image.view_is)

pub returns-clause-none : goal.returns-clause-none
returns-clause-none c =
    let cap : ℕ = length c.self.inside.steps.items in
    let mine : length c.args.self.now ≡ cap = size_now c.self.inside.steps.items c.self.inside.spare.items c.self.inside.marks.items c.self.inside.count c.args.self.now c.self.invariant c.self.view_is in
    let images : length c.args.image.now ≡ length c.image.inside.steps.items = size_now c.image.inside.steps.items c.image.inside.spare.items c.image.inside.marks.items c.image.inside.count c.args.image.now c.image.invariant c.image.view_is in
    let same : cap ≡ length c.image.inside.steps.items = omega (arith, mine, images, c.requires) in
    let under : AreBelow cap (take c.self.inside.count c.deref.result.now) = subst (λ (xs : Steps). AreBelow cap (take c.self.inside.count xs)) (sym c.deref.ensures.value) c.self.invariant.steps.below in
    let first : c.first_break_of.result ≡ first_break c.args.self.now c.args.image.now =
    c.first_break_of.ensures cap under
    ∙ ap (λ (xs : Steps). first_break (cells_by_steps cap (take c.self.inside.count xs)) (cells_by_steps cap (take c.image.inside.count c.deref-2.result.now))) c.deref.ensures.value
    ∙ ap (λ (cells : List ℕ). first_break cells (cells_by_steps cap (take c.image.inside.count c.deref-2.result.now))) c.self.view_is
    ∙ ap (first_break c.args.self.now) (ap (λ (xs : Steps). cells_by_steps cap (take c.image.inside.count xs)) c.deref-2.ensures.value ∙ ap (λ n. cells_by_steps n (take c.image.inside.count c.image.inside.steps.items)) same ∙ c.image.view_is) in
    subst (λ r. (r ≡ None) ↔ Dominates c.args.self.now c.args.image.now) (sym first) (unbroken c.args.self.now c.args.image.now (sym c.requires))
