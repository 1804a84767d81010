-- the tables so far, in front of those to come, are all tables
use Rattle.std.proofs.Common.{◌≡◌, [], map}
use Rattle.toml.specs.View.{table_view}
use Rattle.prta_sheet.proofs.ReadItems.{tables_from}
use Rattle.prta_sheet.proofs.reading.tables_of.Given as goal

abbrev pub invariant-loop-item : goal.invariant-loop-item
invariant-loop-item l = tables_from l.items.items [] 0 ≡ tables_from l.items.items (map (λ t. table_view t.now) l.tables.items) l.item-index
