use Rattle.std.proofs.Common.{◌≡◌, ◌↔◌, None, sym, subst}
use Rattle.prta_mass.specs.Chances.{Dominates}
use Rattle.prta_dist.specs.Curve.{first_break}
use Rattle.prta_dist.proofs.Breaks.{unbroken}
use Rattle.prta_dist.proofs.dense.DenseCurve.first_break.Goals as goal

pub returns-clause-none : goal.returns-clause-none
returns-clause-none g c =
    let first : c.first_break_of.result ≡ first_break c.args.self.now c.args.image.now = cc in
    subst (λ r. (r ≡ None) ↔ Dominates c.args.self.now c.args.image.now) (sym first) (unbroken c.args.self.now c.args.image.now (sym c.requires))
