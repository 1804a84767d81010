use Rattle.std.proofs.Common.{◌≡◌, ℕ, ◌-◌, ◌∙◌, ap, arith}
use Rattle.std.specs.List.{slice_range}
use borrow.Rule.Slice.PartMut.{put_mid}
use Rattle.prta_dist.specs.Window.{window_end}
use Rattle.prta_dist.proofs.Windows.{added_in_place, rounded_in_place}
use Rattle.prta_dist.proofs.window.add_in_window.Goals as goal
use Rattle.prta_dist.proofs.window.add_in_window.Goals.{then-far-cells, else-far-cells}

pub returns-clause-cells : goal.returns-clause-cells
returns-clause-cells g c =
    let far : ℕ = c.if-far-cells.end in
    let ended : far ≡ window_end c.args.table.now c.args.cells.now c.args.hi =
    elim c.if-far-cells.branch [ then-far-cells w ↦ omega arith | else-far-cells w ↦ omega arith ] in
    ap (put_mid c.args.lo (far - c.args.lo) c.args.cells.now)
    (c.copy_from_slice.ensures.after ∙ ap (λ xs. slice_range (put_mid c.args.lo (far - c.args.lo) c.args.spare.now xs) c.args.lo far) c.convolve-rounded.ensures.cells)
    ∙ added_in_place c.args.dir c.args.table.now c.args.cells.now c.args.spare.now c.args.lo c.args.hi far c.greatest.ensures.table c.requires.window c.requires.room ended

pub returns-clause-rounded : goal.returns-clause-rounded
returns-clause-rounded g c =
    let ended : c.if-far-cells.end ≡ window_end c.args.table.now c.args.cells.now c.args.hi =
    elim c.if-far-cells.branch [ then-far-cells w ↦ omega arith | else-far-cells w ↦ omega arith ] in
    c.convolve-rounded.ensures.rounded ∙ rounded_in_place c.args.dir c.args.table.now c.args.cells.now c.args.lo c.args.hi c.if-far-cells.end c.greatest.ensures.table c.requires.window ended
