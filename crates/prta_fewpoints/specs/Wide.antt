-- Wide tables: pairs like a time table's, but more of them.
use Rattle.std.specs.Prelude.{Option}
use Rattle.prta_mass.specs.Table.{Table, IsTableWithin, fault_within, FaultlessWithin}
use Rattle.prta_mass.specs.declared.table.TableFault.{TableFault}
use Rattle.prta_fewpoints.specs.declared.wide.TheConstants.{WIDE_LIMIT}

-- what holds of every wide table that is made
abbrev pub IsWide : Table → Type 0
IsWide pairs = IsTableWithin WIDE_LIMIT pairs

-- what the first test of the pairs that fails says; none where they make a wide table
abbrev pub wide_fault : Table → Option TableFault
wide_fault pairs = fault_within WIDE_LIMIT pairs

-- the pairs that make a wide table are those without a fault
abbrev pub FaultlessWide : Type 0
FaultlessWide = FaultlessWithin WIDE_LIMIT
