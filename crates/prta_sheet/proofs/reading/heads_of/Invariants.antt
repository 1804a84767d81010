-- the heads are those of the tables so far
use Rattle.std.proofs.Common.{◌≡◌, map, take}
use Rattle.toml.specs.View.{table_view}
use Rattle.prta_sheet.specs.Reading.{read_task, head_of}
use Rattle.prta_sheet.proofs.reading.heads_of.Given as goal

abbrev pub invariant-loop-table : goal.invariant-loop-table
invariant-loop-table l = l.heads.items ≡ map (λ t. head_of (read_task (table_view t.now))) (take l.table-index l.tables)
