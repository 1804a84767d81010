-- no table so far has a time above the limit, or a fault
use Rattle.std.proofs.Common.{◌≡◌, ℕ, ◌<◌, None, false, [], get_or}
use Rattle.prta_mass.specs.Table.{fault_of}
use Rattle.prta_sheet.specs.SheetConditions.{has_long_time}
use Rattle.prta_sheet.proofs.making.has_long_times.Given as goal

abbrev pub invariant-loop-table : goal.invariant-loop-table
invariant-loop-table l = record {
  short : (k : ℕ) → k < l.table-index → has_long_time (get_or l.tables k []) ≡ false;
  made : (k : ℕ) → k < l.table-index → fault_of (get_or l.tables k []) ≡ None;
}
