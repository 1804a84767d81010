-- the greatest time of the tables so far
use Rattle.std.proofs.Common.{◌≡◌, max, take, fold}
use Rattle.prta_mass.specs.Table.{greatest}
use Rattle.prta_sheet.proofs.added.greatest_of.Given as goal

abbrev pub invariant-loop-table : goal.invariant-loop-table
invariant-loop-table l = l.most ≡ fold (λ most table. max most (greatest table)) 0 (take l.table-index l.tables)
