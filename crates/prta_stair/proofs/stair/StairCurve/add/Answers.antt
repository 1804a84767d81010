use Rattle.std.proofs.Common.{◌≡◌, ◌∙◌, length, take, ap}
use Rattle.std.proofs.lemmas.List.{with_items_is}
use Rattle.prta_dist.specs.Addition.{added}
use Rattle.prta_stair.specs.Steps.{Steps, cells_by_steps}
use Rattle.prta_stair.proofs.Storing.{cells_now}
use Rattle.prta_stair.proofs.stair.StairCurve.add.Goals as goal

pub returns-clause-cells : goal.returns-clause-cells
returns-clause-cells c =
    let new : Steps = c.add_steps-count.new.to in
    let kept : c.swap.new.x.items ≡ new = ap (λ v. v.items) c.swap.ensures.x_after ∙ with_items_is c.self.inside.spare new (c.add_steps-count.auto.to ∙ c.deref_mut.ensures.len) in
    ap (λ (xs : Steps). cells_by_steps (length xs) (take c.add_steps-count.result.0 xs)) kept
    ∙ ap (λ n. cells_by_steps n (take c.add_steps-count.result.0 new)) c.add_steps-count.auto.to
    ∙ c.add_steps-count.ensures.cells
    ∙ ap (added c.args.dir c.args.table.now) (cells_now c.self.inside.steps.items c.self.inside.spare.items c.self.inside.marks.items c.self.inside.count c.args.self.now c.self.invariant c.self.view_is c.deref.result.now c.deref_mut.result.now c.deref.ensures.value c.deref_mut.ensures.value)
