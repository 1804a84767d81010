use Rattle.prta_dual.proofs.Room.{entries_have_room}
use Rattle.prta_dual.proofs.laws.entries_have_room.Goals as goal

pub returns : goal.returns
returns c = entries_have_room
