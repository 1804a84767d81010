use Rattle.std.proofs.Common.{◌≡◌, ◌≤◌, ◌∙◌, ℕ, length, take, ap, sym, subst, arith}
use Rattle.prta_mass.specs.Chances.{at, before}
use Rattle.prta_stair.specs.Steps.{Steps, value_at}
use Rattle.prta_stair.proofs.Storing.{size_now, values_now}
use Rattle.prta_stair.proofs.stair.StairCurve.raise.Goals as goal

pub raise_steps-self-inside-requires-clause-place : goal.raise_steps-self-inside-requires-clause-place
raise_steps-self-inside-requires-clause-place c =
    omega (arith, c.requires.place, ap length c.deref_mut.ensures.value, size_now c.self.inside.steps.items c.self.inside.spare.items c.self.inside.marks.items c.self.inside.count c.args.self.now c.self.invariant c.self.view_is)

pub raise_steps-self-inside-requires-clause-rising : goal.raise_steps-self-inside-requires-clause-rising
raise_steps-self-inside-requires-clause-rising c =
    let same : at c.args.self.now ≡ value_at (take c.self.inside.count c.deref_mut.result.now) =
    values_now c.self.inside.steps.items c.self.inside.spare.items c.self.inside.marks.items c.self.inside.count c.args.self.now c.self.invariant c.self.view_is
    ∙ ap (λ (xs : Steps). value_at (take c.self.inside.count xs)) (sym c.deref_mut.ensures.value) in
    subst (λ (F : ℕ → ℕ). before F c.args.place 1 ≤ c.args.value) same c.requires.rising
