-- no table so far has a fault
use Rattle.std.proofs.Common.{◌≡◌, ℕ, ◌<◌, None, map}
use Rattle.toml.specs.View.{table_view}
use Rattle.prta_sheet.specs.SheetConditions.{table_fault_at}
use Rattle.prta_sheet.specs.Reading.{read_task}
use Rattle.prta_sheet.proofs.reading.first_table_fault.Given as goal

abbrev pub invariant-loop-i : goal.invariant-loop-i
invariant-loop-i l = (k : ℕ) → k < l.i → table_fault_at (map (λ t. read_task (table_view t.now)) l.tables) k ≡ None
