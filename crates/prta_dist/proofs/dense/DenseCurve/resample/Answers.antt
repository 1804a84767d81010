use Rattle.std.proofs.Common.{length, ap, sym, subst, arith}
use Rattle.prta_mass.specs.Chances.{IsChances}
use Rattle.prta_resample.proofs.Keeping.{resamplings_keep}
use Rattle.prta_dist.proofs.Stores.{chances_stored, dense_stored}
use Rattle.prta_dist.proofs.dense.DenseCurve.resample.Goals as goal

pub window_of-lo-requires-clause-chances : goal.window_of-lo-requires-clause-chances
window_of-lo-requires-clause-chances g c =
    chances_stored c.self.inside.cells.len c.self.inside.cells.items c.resample_cells-moved.new.cells c.deref_mut.result.now c.deref.result.now c.deref_mut.ensures.value c.deref_mut.ensures.len c.resample_cells-moved.auto.cells c.deref.ensures.value
    (subst IsChances (sym c.resample_cells-moved.ensures.cells) (resamplings_keep c.args.dir c.args.support c.deref_mut.result.now (omega (arith, c.deref_mut.ensures.len, ap length c.deref_mut.ensures.value, c.self.invariant.least)) (subst IsChances (sym c.deref_mut.ensures.value) c.self.invariant.chances)).chances)

pub invariant_of-self : goal.invariant_of-self
invariant_of-self g c =
    dense_stored c.self.inside.cells.len c.self.inside.cells.items c.resample_cells-moved.new.cells c.deref_mut.result.now c.deref.result.now c.deref_mut.ensures.value c.deref_mut.ensures.len c.resample_cells-moved.auto.cells c.deref.ensures.value
    c.self.inside.spare.items c.self.inside.lo c.self.inside.hi c.window_of-lo.result.0 c.window_of-lo.result.1 c.self.invariant
    (subst IsChances (sym c.resample_cells-moved.ensures.cells) (resamplings_keep c.args.dir c.args.support c.deref_mut.result.now (omega (arith, c.deref_mut.ensures.len, ap length c.deref_mut.ensures.value, c.self.invariant.least)) (subst IsChances (sym c.deref_mut.ensures.value) c.self.invariant.chances)).chances)
    c.window_of-lo.ensures
