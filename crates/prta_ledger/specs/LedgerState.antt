-- A ledger of limited room.
use Rattle.std.specs.Prelude.{ℕ, List, []}
use Rattle.prta_ledger.specs.declared.entry.Entry.{Entry}

-- the entries noted, and how many there may be in all
pub record LedgerState : Type 0 where
  pub entries : List Entry
  pub room : ℕ

-- a ledger of this room, before the first entry
abbrev pub empty_ledger : ℕ → LedgerState
empty_ledger room = record { entries = []; room = room }
