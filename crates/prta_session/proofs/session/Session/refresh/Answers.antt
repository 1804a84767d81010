use Rattle.std.proofs.Common.{◌≡◌, List, Bool, length, ap, ◌∙◌, arith}
use Rattle.std.proofs.lemmas.List.{take_at}
use Rattle.prta_session.proofs.Marks.{refreshed_state}
use Rattle.prta_session.proofs.session.Session.refresh.Goals as goal

pub returns-clause-refreshed : goal.returns-clause-refreshed
returns-clause-refreshed g c =
    let new : List Bool = c.analyse_stale.new.fresh in
    let old : length c.deref_mut.result.now ≡ length c.self.inside.sheet.tasks = ap length c.deref_mut.ensures.value ∙ c.self.invariant.marks in
    let size : length new ≡ length c.self.inside.sheet.tasks = c.analyse_stale.auto.fresh ∙ old in
    refreshed_state (record { sheet = c.self.inside.sheet; fresh = c.self.inside.fresh.items }) c.args.self.now _ new c.self.view_is
    (take_at new _ c.self.inside.fresh.len (omega (arith, size, c.self.invariant.marks))) size
    (λ i low. c.analyse_stale.ensures.marked i (omega (arith, low, old)))
