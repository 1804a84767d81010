use Rattle.prta_backlog.proofs.Counts.{room_is_enough}
use Rattle.prta_backlog.proofs.laws.room_is_enough.Goals as goal

pub returns : goal.returns
returns c = room_is_enough
