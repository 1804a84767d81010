use Rattle.std.proofs.Common.{◌∙◌, ap}
use Rattle.prta_dist.specs.Addition.{cells_added, is_rounded}
use Rattle.prta_preempt.specs.Delay.{merged}
use Rattle.prta_preempt.proofs.Tails.{tail_chances, tail_fits, by_splitting}
use Rattle.prta_preempt.proofs.delays.delay.Goals as goal

pub add_to_tail-rounded-requires-clause-chances : goal.add_to_tail-rounded-requires-clause-chances
add_to_tail-rounded-requires-clause-chances g c = rw c.split.ensures (tail_chances c.args.d c.args.cells.now c.requires.chances)

pub merge-requires-clause-fits : goal.merge-requires-clause-fits
merge-requires-clause-fits g c k late h =
    let table = c.add_to_tail-rounded.ensures.table in
    let tail = c.add_to_tail-rounded.ensures.tail ∙ ap (cells_added c.args.dir c.args.table.now) c.split.ensures in
    rw tail (tail_fits c.args.table.now c.args.d c.args.cells.now c.requires.chances c.args.dir table.weighs k late h)

pub returns-clause-cells : goal.returns-clause-cells
returns-clause-cells g c =
    let table = c.add_to_tail-rounded.ensures.table in
    let split = by_splitting c.args.dir c.args.table.now c.args.d c.args.cells.now table c.requires.chances c.requires.place in
    c.merge.ensures
    ∙ ap (merged c.args.d c.args.cells.now) (c.add_to_tail-rounded.ensures.tail ∙ ap (cells_added c.args.dir c.args.table.now) c.split.ensures)
    ∙ split.digits

pub returns-clause-rounded : goal.returns-clause-rounded
returns-clause-rounded g c =
    let table = c.add_to_tail-rounded.ensures.table in
    let split = by_splitting c.args.dir c.args.table.now c.args.d c.args.cells.now table c.requires.chances c.requires.place in
    c.add_to_tail-rounded.ensures.rounded ∙ ap (is_rounded c.args.table.now) c.split.ensures ∙ split.rounded
