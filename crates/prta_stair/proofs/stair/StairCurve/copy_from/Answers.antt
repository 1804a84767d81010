use Rattle.std.proofs.Common.{◌≡◌, ◌≤◌, ◌∙◌, ℕ, length, take, drop, ap, sym, subst, arith}
use Rattle.std.proofs.lemmas.List.{length-take-le, take_at, with_items_is}
use Rattle.prta_stair.specs.Steps.{Steps, cells_by_steps}
use Rattle.prta_stair.specs.Stair.{IsStair}
use Rattle.prta_stair.proofs.Storing.{size_now, copied}
use Rattle.prta_stair.proofs.stair.StairCurve.copy_from.Goals as goal

pub copy_steps-requires : goal.copy_steps-requires
copy_steps-requires c =
    let mine : length c.args.self.now ≡ length c.self.inside.steps.items = size_now c.self.inside.steps.items c.self.inside.spare.items c.self.inside.marks.items c.self.inside.count c.args.self.now c.self.invariant c.self.view_is in
    let others : length c.args.other.now ≡ length c.other.inside.steps.items = size_now c.other.inside.steps.items c.other.inside.spare.items c.other.inside.marks.items c.other.inside.count c.args.other.now c.other.invariant c.other.view_is in
    let few : c.other.inside.count ≤ length c.deref.result.now = omega (arith, ap length c.deref.ensures.value, c.other.invariant.within) in
    omega (arith, mine, others, c.requires, ap length c.deref.ensures.value, ap length c.deref_mut.ensures.value, length-take-le c.other.inside.count c.deref.result.now few, few)

pub invariant_of-self : goal.invariant_of-self
invariant_of-self c =
    let count : ℕ = c.other.inside.count in
    let new : Steps = c.copy_steps.new.to in
    let mine : length c.args.self.now ≡ length c.self.inside.steps.items = size_now c.self.inside.steps.items c.self.inside.spare.items c.self.inside.marks.items c.self.inside.count c.args.self.now c.self.invariant c.self.view_is in
    let others : length c.args.other.now ≡ length c.other.inside.steps.items = size_now c.other.inside.steps.items c.other.inside.spare.items c.other.inside.marks.items count c.args.other.now c.other.invariant c.other.view_is in
    let few : count ≤ length c.deref.result.now = omega (arith, ap length c.deref.ensures.value, c.other.invariant.within) in
    let front : take count new ≡ take count c.other.inside.steps.items =
    ap (λ n. take n new) (sym (length-take-le count c.deref.result.now few)) ∙ c.copy_steps.ensures ∙ ap (take count) c.deref.ensures.value in
    let size : length new ≡ length c.self.inside.steps.items = c.copy_steps.auto.to ∙ ap length c.deref_mut.ensures.value in
    subst (λ (xs : Steps). IsStair xs c.self.inside.spare.items c.self.inside.marks.items count) (sym (take_at new (drop (length new) c.self.inside.steps.items) c.self.inside.steps.len (c.copy_steps.auto.to ∙ c.deref_mut.ensures.len)))
    (copied c.self.inside.steps.items c.self.inside.spare.items c.other.inside.steps.items c.other.inside.spare.items new c.self.inside.marks.items c.other.inside.marks.items c.self.inside.count count c.self.invariant c.other.invariant size (omega (arith, mine, others, c.requires)) front)

pub returns-clause-cells : goal.returns-clause-cells
returns-clause-cells c =
    let count : ℕ = c.other.inside.count in
    let new : Steps = c.copy_steps.new.to in
    let mine : length c.args.self.now ≡ length c.self.inside.steps.items = size_now c.self.inside.steps.items c.self.inside.spare.items c.self.inside.marks.items c.self.inside.count c.args.self.now c.self.invariant c.self.view_is in
    let others : length c.args.other.now ≡ length c.other.inside.steps.items = size_now c.other.inside.steps.items c.other.inside.spare.items c.other.inside.marks.items count c.args.other.now c.other.invariant c.other.view_is in
    let few : count ≤ length c.deref.result.now = omega (arith, ap length c.deref.ensures.value, c.other.invariant.within) in
    let front : take count new ≡ take count c.other.inside.steps.items =
    ap (λ n. take n new) (sym (length-take-le count c.deref.result.now few)) ∙ c.copy_steps.ensures ∙ ap (take count) c.deref.ensures.value in
    let size : length new ≡ length c.self.inside.steps.items = c.copy_steps.auto.to ∙ ap length c.deref_mut.ensures.value in
    let same : length new ≡ length c.other.inside.steps.items = omega (arith, size, mine, others, c.requires) in
    ap (λ (xs : Steps). cells_by_steps (length xs) (take count xs)) (with_items_is c.self.inside.steps new (c.copy_steps.auto.to ∙ c.deref_mut.ensures.len))
    ∙ ap (λ n. cells_by_steps n (take count new)) same
    ∙ ap (cells_by_steps (length c.other.inside.steps.items)) front
    ∙ c.other.view_is
