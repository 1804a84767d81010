use Rattle.prta_ticksim.proofs.Misses.{finishes_tell_misses}
use Rattle.prta_ticksim.proofs.model.finishes_tell_misses.Goals as goal

pub returns : goal.returns
returns c = finishes_tell_misses
