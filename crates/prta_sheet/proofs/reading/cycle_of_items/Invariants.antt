-- the tables so far, in front of those to come, are all tables
use Rattle.std.proofs.Common.{◌≡◌, [], map}
use Rattle.prta_sheet.proofs.ReadItems.{cycle_from}
use Rattle.prta_sheet.proofs.reading.cycle_of_items.Given as goal

abbrev pub invariant-loop-item : goal.invariant-loop-item
invariant-loop-item l = cycle_from l.items.items [] 0 ≡ cycle_from l.items.items (map (λ points. points.items) l.cycle.items) l.item-index
