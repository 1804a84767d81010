use Rattle.std.proofs.Common.{List, ℕ, ◌≤◌, sym, ap, subst, ◌∙◌}
use Rattle.prta_mass.specs.Unit.{unit}
use Rattle.prta_mass.specs.Chances.{last, IsChances}
use Rattle.prta_dist.specs.Addition.{settled}
use Rattle.prta_dist.proofs.Cells.{last_limited}
use Rattle.prta_dist.proofs.Chances.{keep_chances, last_falls}
use Rattle.prta_dist.proofs.window.add_table.Goals as goal

pub settle-cut-requires-clause-low : goal.settle-cut-requires-clause-low
settle-cut-requires-clause-low g c =
    subst (λ (cells : List ℕ). last cells ≤ unit) (sym c.add_in_window-rounded.ensures.cells) (last_limited _ (keep_chances c.args.dir c.args.table.now c.args.cells.now c.greatest.ensures.table c.requires.chances).0)

pub settle-cut-requires-clause-falls : goal.settle-cut-requires-clause-falls
settle-cut-requires-clause-falls g c =
    subst (λ (cells : List ℕ). last cells ≤ last c.args.cells.now) (sym c.add_in_window-rounded.ensures.cells) (last_falls c.args.dir c.args.table.now c.args.cells.now c.greatest.ensures.table c.requires.chances c.requires.some)

pub window_of-requires-clause-chances : goal.window_of-requires-clause-chances
window_of-requires-clause-chances g c =
    subst IsChances (sym (c.settle-cut.ensures.cells ∙ ap (settled c.args.dir) c.add_in_window-rounded.ensures.cells)) (keep_chances c.args.dir c.args.table.now c.args.cells.now c.greatest.ensures.table c.requires.chances).1

pub returns-clause-chances : goal.returns-clause-chances
returns-clause-chances g c =
    subst IsChances (sym (c.settle-cut.ensures.cells ∙ ap (settled c.args.dir) c.add_in_window-rounded.ensures.cells)) (keep_chances c.args.dir c.args.table.now c.args.cells.now c.greatest.ensures.table c.requires.chances).1
