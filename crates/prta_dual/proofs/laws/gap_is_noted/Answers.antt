use Rattle.prta_dual.proofs.Gap.{gap_is_noted}
use Rattle.prta_dual.proofs.laws.gap_is_noted.Goals as goal

pub returns : goal.returns
returns c = gap_is_noted
