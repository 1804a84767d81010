use Rattle.prta_dual.proofs.RoomFits.{entries_are_countable}
use Rattle.prta_dual.proofs.laws.entries_are_countable.Goals as goal

pub returns : goal.returns
returns c = entries_are_countable
