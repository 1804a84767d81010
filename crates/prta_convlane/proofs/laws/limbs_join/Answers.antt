use Rattle.prta_convlane.proofs.Limbs.{halves_join, quarters_join}
use Rattle.prta_convlane.proofs.laws.limbs_join.Goals as goal

pub returns : goal.returns
returns c = record { halves = halves_join; quarters = quarters_join }
