use Rattle.std.proofs.Common.{sym, subst}
use Rattle.prta_mass.specs.Chances.{IsChances}
use Rattle.prta_dist.proofs.Chances.{point_chances}
use Rattle.prta_dist.proofs.Stores.{chances_stored, dense_stored}
use Rattle.prta_dist.proofs.dense.DenseCurve.point.Goals as goal

pub window_of-lo-requires-clause-chances : goal.window_of-lo-requires-clause-chances
window_of-lo-requires-clause-chances g c =
    chances_stored c.self.inside.cells.len c.self.inside.cells.items c.write_point.new.cells c.deref_mut.result.now c.deref.result.now c.deref_mut.ensures.value c.deref_mut.ensures.len c.write_point.auto.cells c.deref.ensures.value
    (subst IsChances (sym c.write_point.ensures) (point_chances _ c.args.b))

pub invariant_of-self : goal.invariant_of-self
invariant_of-self g c =
    dense_stored c.self.inside.cells.len c.self.inside.cells.items c.write_point.new.cells c.deref_mut.result.now c.deref.result.now c.deref_mut.ensures.value c.deref_mut.ensures.len c.write_point.auto.cells c.deref.ensures.value
    c.self.inside.spare.items c.self.inside.lo c.self.inside.hi c.window_of-lo.result.0 c.window_of-lo.result.1 c.self.invariant
    (subst IsChances (sym c.write_point.ensures) (point_chances _ c.args.b))
    c.window_of-lo.ensures
