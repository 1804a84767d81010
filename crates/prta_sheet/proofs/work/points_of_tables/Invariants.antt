-- the points of the tables so far
use Rattle.std.proofs.Common.{◌≡◌, ◌*◌, ◌≤◌, length, take, sum_by}
use Rattle.prta_sheet.proofs.work.points_of_tables.Given as goal

abbrev pub invariant-loop-table : goal.invariant-loop-table
invariant-loop-table l = (l.points ≡ sum_by length (take l.table-index l.tables)) × (l.points ≤ 32 * l.table-index)
