use Rattle.std.proofs.Common.{◌≡◌, ◌∙◌, length, ap, sym, arith}
use Rattle.std.proofs.Math.Facts.{Fits-below}
use Rattle.prta_mass.specs.Chances.{point}
use Rattle.prta_stair.proofs.Storing.{size_now, pointed, pointed_cells}
use Rattle.prta_stair.proofs.stair.StairCurve.point.Goals as goal

pub overflow_cast-b : goal.overflow_cast-b
overflow_cast-b c =
    let size : length c.args.self.now ≡ length c.self.inside.steps.items = size_now c.self.inside.steps.items c.self.inside.spare.items c.self.inside.marks.items c.self.inside.count c.args.self.now c.self.invariant c.self.view_is in
    Fits-below {n = 16384} tt (omega (arith, size, c.requires, c.self.invariant.most))

pub invariant_of-self : goal.invariant_of-self
invariant_of-self c =
    let size : length c.args.self.now ≡ length c.self.inside.steps.items = size_now c.self.inside.steps.items c.self.inside.spare.items c.self.inside.marks.items c.self.inside.count c.args.self.now c.self.invariant c.self.view_is in
    pointed c.self.inside.steps.items c.self.inside.spare.items c.self.inside.marks.items c.self.inside.count c.args.b c.self.invariant (omega (arith, size, c.requires))

pub returns-clause-cells : goal.returns-clause-cells
returns-clause-cells c =
    let size : length c.args.self.now ≡ length c.self.inside.steps.items = size_now c.self.inside.steps.items c.self.inside.spare.items c.self.inside.marks.items c.self.inside.count c.args.self.now c.self.invariant c.self.view_is in
    pointed_cells c.self.inside.steps.items c.args.b (omega (arith, c.self.invariant.least)) ∙ ap (λ n. point n c.args.b) (sym size)
