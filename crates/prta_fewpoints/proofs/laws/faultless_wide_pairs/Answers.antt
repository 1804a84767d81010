use Rattle.prta_mass.proofs.Faults.{IsTable-from_none}
use Rattle.prta_mass.proofs.Faultless.{no_table_fault}
use Rattle.prta_fewpoints.specs.declared.wide.TheConstants.{WIDE_LIMIT}
use Rattle.prta_fewpoints.proofs.laws.faultless_wide_pairs.Goals as goal

pub returns : goal.returns
returns c = λ pairs. (IsTable-from_none WIDE_LIMIT pairs, no_table_fault WIDE_LIMIT pairs)
