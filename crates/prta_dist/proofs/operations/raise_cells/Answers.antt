use Rattle.std.proofs.Common.{◌<◌, ◌≤◌, length, nat_lt, if◌then◌else◌, ◌∙◌, arith, ⊎_elim}
use Rattle.std.proofs.lemmas.List.FromFn.{fill_by_all}
use Rattle.std.proofs.lemmas.Bool.{cases_lt, lt-ltb, le-ltb}
use Rattle.prta_mass.specs.Chances.{at}
use Rattle.prta_dist.proofs.Cells.{at_cell}
use Rattle.prta_dist.proofs.operations.raise_cells.Goals as goal

pub returns : goal.returns
returns c =
    fill_by_all (λ k. if nat_lt k c.args.place then at c.args.cells.now k else c.args.value) c.loop-k.cells (length c.args.cells.now) 0 (omega arith) (λ k h. ⊎_elim
    (λ (l : k < c.args.place). rw (lt-ltb k c.args.place l) (c.loop-k.invariant.kept k l ∙ at_cell c.args.cells.now k 0 h))
    (λ (l : c.args.place ≤ k). rw (le-ltb k c.args.place l) (c.loop-k.invariant.done k l (omega arith)))
    (cases_lt k c.args.place))
