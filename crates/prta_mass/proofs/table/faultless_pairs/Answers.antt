use Rattle.prta_mass.specs.declared.table.TheConstants.{POINT_LIMIT}
use Rattle.prta_mass.proofs.Faults.{IsTable-from_none}
use Rattle.prta_mass.proofs.Faultless.{no_table_fault}
use Rattle.prta_mass.proofs.table.faultless_pairs.Goals as goal

pub returns : goal.returns
returns c = λ pairs. (IsTable-from_none POINT_LIMIT pairs, no_table_fault POINT_LIMIT pairs)
