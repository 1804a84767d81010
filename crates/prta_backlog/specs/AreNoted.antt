-- What notes hold after the entries of some operations.
use Rattle.std.specs.Prelude.{◌≡◌, ℕ, ◌+◌, ◌≤◌, Option, List, length}
use Rattle.prta_mass.specs.declared.direction.Dir.{Dir}
use Rattle.prta_ledger.specs.declared.entry.Entry.{Entry}
use Rattle.prta_ledger.specs.Noted.{appended}
use Rattle.prta_backlog.specs.Entries.{Operation, noted}

-- the entries of operations, numbered from a number on, were appended, and took no more room than their number
pub record AreNoted (dir : Dir) (task job from : ℕ) (ops : List Operation) (noted_before : Option (List Entry)) (room_before : ℕ) (noted_now : Option (List Entry)) (room_now : ℕ) : Type 0 where
  pub entries : noted_now ≡ appended noted_before (noted dir task job from ops)
  pub room : room_before ≤ room_now + length (noted dir task job from ops)
