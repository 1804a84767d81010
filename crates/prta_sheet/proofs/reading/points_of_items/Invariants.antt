-- the points so far, in front of those to come, are all points
use Rattle.std.proofs.Common.{◌≡◌, []}
use Rattle.prta_sheet.proofs.ReadItems.{points_from}
use Rattle.prta_sheet.proofs.reading.points_of_items.Given as goal

abbrev pub invariant-loop-item : goal.invariant-loop-item
invariant-loop-item l = points_from l.items.items [] 0 ≡ points_from l.items.items l.points.items l.item-index
