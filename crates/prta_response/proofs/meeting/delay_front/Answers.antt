-- The front falls.
use Rattle.std.proofs.Common.{◌++◌, length-take, take, drop, sym, subst, arith}
use Rattle.prta_mass.specs.Chances.{IsChances}
use Rattle.prta_response.proofs.Reach.{front_chances, first_chances}
use Rattle.prta_response.proofs.meeting.delay_front.Goals as goal

pub returns-clause-chances : goal.returns-clause-chances
returns-clause-chances g c =
    subst (λ new. IsChances (new ++ drop c.args.n c.args.cells.now)) (sym c.delay-rounded.ensures.cells)
    (front_chances c.args.dir c.args.table.now c.args.d c.args.n c.args.cells.now c.requires.inside c.requires.chances
    (c.delays_keep_chances.ensures c.args.dir c.args.table.now c.args.d (take c.args.n c.args.cells.now) c.greatest-greatest.ensures.table
    (first_chances c.args.n c.args.cells.now c.requires.chances) (omega (arith, length-take c.args.n c.args.cells.now))))
