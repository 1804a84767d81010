use Rattle.std.proofs.Common.{◌≡◌, ℕ, ◌+◌, ◌^◌, ◌<◌, length, get_or, All, ap, sym, subst, ◌∙◌, arith}
use Rattle.std.proofs.lemmas.List.{get_or_default}
use Rattle.prta_mass.specs.Table.{greatest}
use Rattle.prta_sheet.specs.Sheet.{Task, Sheet, task_at, hyperperiod}
use Rattle.prta_sheet.specs.Accepted.{IsAccepted}
use Rattle.prta_sheet.specs.Added.{task_with_added}
use Rattle.prta_sheet.proofs.AddedTicks.{hyperperiod_added, times_within, added_anew, read_added}
use Rattle.prta_sheet.proofs.sheet.Sheet.set_added.Goals as goal

-- a task that is read at a place is the one of that place
read_at : (inside sheet : Sheet) (i : ℕ) (task : Task) → inside ≡ sheet → i < length sheet.tasks → task ≡ get_or inside.tasks i task → task ≡ task_at sheet.tasks i
read_at inside sheet i task same low read = read ∙ ap (λ (sheet : Sheet). get_or sheet.tasks i task) same ∙ get_or_default sheet.tasks i task _ low

pub set_added-requires-clause-same : goal.set_added-requires-clause-same
set_added-requires-clause-same c =
    let base : Sheet = c.args.base.now in
    let i : ℕ = c.args.task in
    let r : ℕ = c.requires.same.0 in
    let own = read_at _ base i c.index.result.now c.base.view_is c.requires.task c.index.ensures in
    (r, c.index_mut.ensures.value ∙ read_added _ base i r c.index_mut.result.now c.requires.task (c.self.view_is ∙ c.requires.same.1) ∙ ap (λ (task : Task). task_with_added task r) (sym own))

pub set_added-requires-clause-within : goal.set_added-requires-clause-within
set_added-requires-clause-within c =
    let base : Sheet = c.args.base.now in
    let i : ℕ = c.args.task in
    let s : ℕ = c.args.s in
    let accepted : IsAccepted base = subst IsAccepted c.base.view_is c.base.invariant.0 in
    let own = read_at _ base i c.index.result.now c.base.view_is c.requires.task c.index.ensures in
    let Stays : Task → Type 0 = λ task. All (λ table. greatest table + s < 2 ^ 32) task.cycle in
    subst Stays (sym own) (λ k d low. omega (arith, times_within (task_at base.tasks i) s (accepted.tasks i _ c.requires.task).times c.requires.room k d low))

pub invariant_of-self : goal.invariant_of-self
invariant_of-self c =
    let base : Sheet = c.args.base.now in
    let i : ℕ = c.args.task in
    let s : ℕ = c.args.s in
    let r : ℕ = c.requires.same.0 in
    let before = c.self.view_is ∙ c.requires.same.1 in
    let own = read_at _ base i c.index.result.now c.base.view_is c.requires.task c.index.ensures in
    let now = added_anew _ base i r s c.set_added.new.self before (c.set_added.ensures ∙ ap (λ (task : Task). task_with_added task s) own) in
    let keeps = c.added_sheets.ensures base i s (subst IsAccepted c.base.view_is c.base.invariant.0) c.requires.task c.requires.room in (
      subst IsAccepted (sym now) keeps.accepted,
      c.self.invariant.1 ∙ ap (λ (sheet : Sheet). hyperperiod sheet.tasks) before ∙ hyperperiod_added base.tasks i r ∙ sym keeps.same_hyperperiod ∙ ap (λ (sheet : Sheet). hyperperiod sheet.tasks) (sym now),
    )

pub returns : goal.returns
returns c =
    let base : Sheet = c.args.base.now in
    let i : ℕ = c.args.task in
    let s : ℕ = c.args.s in
    let own = read_at _ base i c.index.result.now c.base.view_is c.requires.task c.index.ensures in
    added_anew _ base i c.requires.same.0 s c.set_added.new.self (c.self.view_is ∙ c.requires.same.1) (c.set_added.ensures ∙ ap (λ (task : Task). task_with_added task s) own)
