use Rattle.prta_mass.proofs.AddedTicks.{added_tables as laws}
use Rattle.prta_mass.proofs.added.added_tables.Goals as goal

pub returns : goal.returns
returns c = laws
