use Rattle.std.proofs.Common.{ℕ, ◌+◌, ◌-◌, length, get_or, arith, refl}
use Rattle.prta_mass.specs.Chances.{at}
use Rattle.prta_shift.proofs.Shifts.{is_shifted, past_cell, fill_more_by}
use Rattle.prta_shift.proofs.shift.shift_cells.Goals as goal

pub loop-k-preserved : goal.loop-k-preserved
loop-k-preserved c =
    let cells = c.args.cells.now in
    let t = c.args.t in
    let k = c.loop-k.k in
    let last = get_or cells (length cells - 1) 0 in
    let from = c.loop-k.auto.k in
    fill_more_by (λ (k : ℕ). at cells (k + t)) c.loop-k.cells k last (omega arith)
    (past_cell t c.at_most-gone.result (length cells) k last cells refl c.at_most-gone.ensures (omega arith) (omega arith) refl)
    c.loop-k.invariant

pub returns : goal.returns
returns c = is_shifted c.args.t c.args.cells.now c.loop-k.cells (omega arith) (λ k low. c.loop-k.invariant k (omega arith))
