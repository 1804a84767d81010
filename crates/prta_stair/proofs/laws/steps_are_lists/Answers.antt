use Rattle.prta_stair.proofs.Rises.{steps_and_lists}
use Rattle.prta_stair.proofs.laws.steps_are_lists.Goals as goal

pub returns : goal.returns
returns c = steps_and_lists
