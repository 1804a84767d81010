use Rattle.std.proofs.Common.{◌≡◌, ◌≤◌, List, ℕ, sym, subst}
use Rattle.prta_mass.specs.Chances.{at, before, IsChances}
use Rattle.prta_dist.proofs.Chances.{raise_chances}
use Rattle.prta_dist.proofs.Stores.{chances_stored, dense_stored}
use Rattle.prta_dist.proofs.dense.DenseCurve.raise.Goals as goal

pub window_of-lo-requires-clause-chances : goal.window_of-lo-requires-clause-chances
window_of-lo-requires-clause-chances g c =
    let same : c.deref_mut.result.now ≡ c.args.self.now = cc in
    chances_stored c.self.inside.cells.len c.self.inside.cells.items c.raise_cells.new.cells c.deref_mut.result.now c.deref.result.now c.deref_mut.ensures.value c.deref_mut.ensures.len c.raise_cells.auto.cells c.deref.ensures.value
    (subst IsChances (sym c.raise_cells.ensures) (raise_chances c.args.place c.args.value c.deref_mut.result.now (subst IsChances (sym c.deref_mut.ensures.value) c.self.invariant.chances) c.requires.low (subst (λ (cells : List ℕ). before (at cells) c.args.place 1 ≤ c.args.value) (sym same) c.requires.rising)))

pub invariant_of-self : goal.invariant_of-self
invariant_of-self g c =
    let same : c.deref_mut.result.now ≡ c.args.self.now = cc in
    dense_stored c.self.inside.cells.len c.self.inside.cells.items c.raise_cells.new.cells c.deref_mut.result.now c.deref.result.now c.deref_mut.ensures.value c.deref_mut.ensures.len c.raise_cells.auto.cells c.deref.ensures.value
    c.self.inside.spare.items c.self.inside.lo c.self.inside.hi c.window_of-lo.result.0 c.window_of-lo.result.1 c.self.invariant
    (subst IsChances (sym c.raise_cells.ensures) (raise_chances c.args.place c.args.value c.deref_mut.result.now (subst IsChances (sym c.deref_mut.ensures.value) c.self.invariant.chances) c.requires.low (subst (λ (cells : List ℕ). before (at cells) c.args.place 1 ≤ c.args.value) (sym same) c.requires.rising)))
    c.window_of-lo.ensures
