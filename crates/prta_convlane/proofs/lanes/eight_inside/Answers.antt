use Rattle.std.proofs.Common.{◌≡◌, ◌+◌, ◌-◌, ◌∙◌, sym, ap, get_or, arith}
use Rattle.std.proofs.lemmas.Simd.{get_or-chunk}
use Rattle.prta_mass.specs.Chances.{at}
use Rattle.prta_dist.proofs.Cells.{at_cell}
use Rattle.prta_dist.proofs.Sums.{before_near}
use Rattle.prta_convlane.proofs.lanes.eight_inside.Goals as goal

pub returns : goal.returns
returns c j below =
    let place : c.args.k - c.args.time + j ≡ c.args.k + j - c.args.time = omega (arith, c.requires.near) in
    get_or-chunk (c.args.k - c.args.time) 8 c.args.from.now j 0 below
    ∙ ap (λ i. get_or c.args.from.now i 0) place
    ∙ at_cell c.args.from.now (c.args.k + j - c.args.time) 0 (omega (arith, c.requires.room))
    ∙ sym (before_near (at c.args.from.now) (c.args.k + j) c.args.time (omega (arith, c.requires.near)))
