-- The room is enough for the entries of an analysis.
use Rattle.std.proofs.Common.{arith}
use Rattle.std.proofs.lemmas.List.{length-append}
use Rattle.prta_mass.specs.declared.direction.Dir.TheVariants.{Up, Down}
use Rattle.prta_backlog.proofs.Counts.{room_is_enough}
use Rattle.prta_dual.specs.Entries.{entries_in}
use Rattle.prta_dual.specs.Laws.{EntriesHaveRoom}
use Rattle.prta_dual.proofs.RoomSoFar.{few_in}

pub entries_have_room : EntriesHaveRoom
entries_have_room sheet level is listed apart =
    omega (
      arith,
      length-append (entries_in Up sheet level) (entries_in Down sheet level),
      few_in Up sheet level,
      few_in Down sheet level,
      room_is_enough sheet level is listed apart,
    )
