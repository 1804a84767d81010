use Rattle.std.proofs.Common.{◌≡◌, None, List, ap, sym, subst, ◌∙◌, arith}
use Rattle.std.proofs.lemmas.List.{take_at}
use Rattle.prta_sheet.specs.Sheet.{Task, Sheet, hyperperiod}
use Rattle.prta_sheet.specs.Accepted.{IsAccepted}
use Rattle.prta_sheet.specs.Edits.{edited_tasks, edit_fault}
use Rattle.prta_sheet.proofs.Edited.{edited_is_accepted, by_answer}
use Rattle.prta_sheet.proofs.sheet.Sheet.edit.Goals as goal

pub invariant_of-self : goal.invariant_of-self
invariant_of-self c =
    let inside : Sheet = record { settings = c.self.inside.settings; tasks = c.self.inside.tasks.items } in
    let lent : List Task = c.deref_mut.result.now in
    let IsInside : List Task → Type 0 = λ tasks. IsAccepted (record { settings = c.self.inside.settings; tasks = tasks }) × (c.self.inside.hyperperiod ≡ hyperperiod tasks) in
    subst IsInside (sym (take_at c.edit_tasks.new.tasks _ c.self.inside.tasks.len (omega arith)))
    (by_answer c.edit_tasks.result _ _ _ c.edit_tasks.ensures.edited c.edit_tasks.ensures.accepted c.edit_tasks.ensures.unchanged
    (λ made none.
    let new : c.edit_tasks.new.tasks ≡ edited_tasks c.args.edit inside.tasks = made ∙ ap (edited_tasks c.args.edit) c.deref_mut.ensures.value in
    let faultless : edit_fault c.args.edit inside ≡ None = subst (λ (tasks : List Task). edit_fault c.args.edit (record { settings = c.self.inside.settings; tasks = tasks }) ≡ None) c.deref_mut.ensures.value none in
    subst IsInside (sym new) (edited_is_accepted c.faultless_pairs.ensures c.args.edit inside faultless, c.self.invariant.1 ∙ sym (c.edits_keep_jobs.ensures c.args.edit inside.tasks).same_hyperperiod))
    (λ kept. subst IsInside (sym (kept ∙ c.deref_mut.ensures.value)) c.self.invariant))
