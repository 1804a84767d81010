-- How a task's counted times become its table.
use Rattle.std.specs.Prelude.{ℕ}
use Rattle.prta_mass.specs.Table.{Table}
use Rattle.prta_mass.specs.declared.table.TheConstants.{POINT_LIMIT}
use Rattle.prta_fewpoints.specs.Recursion.{reduced}
use Rattle.prta_fewpoints.specs.declared.wide.TheConstants.{WIDE_LIMIT}
use Rattle.prta_times.specs.declared.points.Points.{Points}
use Rattle.prta_times.specs.declared.points.Points.TheVariants.{Every, AtMost}

-- at most so many different times may be counted
abbrev pub most_times : Points → ℕ
most_times Every = POINT_LIMIT
most_times (AtMost k) = WIDE_LIMIT

-- the table that they make
abbrev pub table_by : Points → Table → Table
table_by Every counted = counted
table_by (AtMost k) counted = reduced counted k
