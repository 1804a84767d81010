-- the tables so far
use Rattle.std.proofs.Common.{◌≡◌, ◌++◌, flat_map, take}
use Rattle.prta_sheet.specs.Canonical.{next_table_text}
use Rattle.prta_sheet.proofs.text.push_next_tables.Given as goal

abbrev pub invariant-loop-table : goal.invariant-loop-table
invariant-loop-table l = l.text.items ≡ l.initial.text.items ++ flat_map next_table_text (take l.table-index l.tables)
