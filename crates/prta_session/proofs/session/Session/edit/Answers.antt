use Rattle.std.proofs.Common.{◌≡◌, List, Bool, not, ◌&&◌, length, ap, ap₂, sym, ◌∙◌, arith}
use Rattle.std.proofs.lemmas.List.{take_at}
use Rattle.prta_session.specs.Kept.{is_marked}
use Rattle.prta_session.proofs.Marks.{edited_state}
use Rattle.prta_session.proofs.session.Session.edit.Goals as goal

pub returns-in-Ok-clause-edited : goal.returns-in-Ok-clause-edited
returns-in-Ok-clause-edited c =
    let marks : List Bool = c.self.inside.fresh.items in
    let new : List Bool = c.mark_stale.new.fresh in
    let size : length new ≡ length c.self.inside.sheet.tasks = c.mark_stale.auto.fresh ∙ ap length c.deref_mut.ensures.value ∙ c.self.invariant.marks in
    edited_state c.args.edit (record { sheet = c.self.inside.sheet; fresh = marks }) c.args.self.now c.edit.new.self _ new c.self.view_is c.in-Ok.ensures.edited
    (take_at new _ c.self.inside.fresh.len (omega (arith, size, c.self.invariant.marks))) size
    (λ i low.
    c.mark_stale.ensures i
    ∙ ap₂ (λ (marks : List Bool) (stale : Bool). is_marked marks i && not stale) c.deref_mut.ensures.value
    (sym (c.stale_by-from.ensures.tasks i (omega (arith, low, c.len.ensures, c.self.invariant.marks)))))
