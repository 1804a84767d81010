use Rattle.std.proofs.Common.{◌+◌, ◌-◌, ◌∙◌, ap}
use borrow.Rule.Slice.PartMut.{put_mid}
use Rattle.prta_dist.proofs.Shifting.{shifted_in_place}
use Rattle.prta_dist.proofs.window.shift_in_window.Goals as goal

pub returns : goal.returns
returns c =
    ap (put_mid c.saturating_sub-start.result (c.args.hi + 1 - c.saturating_sub-start.result) c.args.cells.now) c.shift_cells.ensures
    ∙ shifted_in_place c.args.cells.now c.args.lo c.args.hi c.saturating_sub-start.result c.args.t c.requires c.saturating_sub-start.ensures
