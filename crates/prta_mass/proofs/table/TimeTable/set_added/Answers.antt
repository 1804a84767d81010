use Rattle.std.proofs.Common.{◌≡◌, ◌+◌, ◌<◌, ◌^◌, ◌∙◌, ap, sym, subst, All, arith}
use Rattle.std.proofs.lemmas.List.{take_at}
use Rattle.prta_mass.specs.Table.{Table, total, IsTable}
use Rattle.prta_mass.specs.Added.{with_added}
use Rattle.prta_mass.proofs.AddedTicks.{total_added, IsTable-added, times_below}
use Rattle.prta_mass.proofs.table.TimeTable.set_added.Goals as goal

pub put_added-requires-clause-within : goal.put_added-requires-clause-within
put_added-requires-clause-within c =
    let Below : Table → Type 0 = λ table. All (λ pair. pair.0 + c.args.s < 2 ^ 32) table in
    let is : IsTable c.args.base.now = subst IsTable c.base.view_is c.base.invariant.0 in
    subst Below (sym (c.deref.ensures.value ∙ c.base.view_is)) (times_below c.args.base.now c.args.s (2 ^ 32) is c.requires.within)

pub invariant_of-self : goal.invariant_of-self
invariant_of-self c =
    let base : Table = c.args.base.now in
    let IsInside : Table → Type 0 = λ points. IsTable points × (c.self.inside.divisor.total ≡ total points) in
    let made : c.put_added.new.points ≡ with_added base c.args.s = c.put_added.ensures ∙ ap (λ (table : Table). with_added table c.args.s) (c.deref.ensures.value ∙ c.base.view_is) in
    let is : IsTable base = subst IsTable c.base.view_is c.base.invariant.0 in
    let kept : c.self.inside.divisor.total ≡ total (with_added base c.args.s) =
    c.self.invariant.1 ∙ ap total (c.self.view_is ∙ c.requires.same.1) ∙ total_added base c.requires.same.0 ∙ sym (total_added base c.args.s) in
    subst IsInside (sym (take_at c.put_added.new.points _ c.self.inside.points.len (omega arith) ∙ made)) (IsTable-added base c.args.s is, kept)
