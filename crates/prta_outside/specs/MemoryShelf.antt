-- A shelf over memory: what it is, and what a read of it gives.
use Rattle.std.specs.Prelude.{◌≡◌, ℕ, ◌+◌, Option, Some, None, nat_le, if◌then◌else◌, List, [], ◌∷◌, length, bytes_eq, Result, Ok, Err, Vec, ⊤}
use Rattle.prta_outside.specs.declared.shelf.ShelfFault.{ShelfFault}
use Rattle.prta_outside.specs.declared.shelf.ShelfFault.TheVariants.{Failed, TooLong, NoMemory}
use Rattle.prta_outside.specs.Calls.{CallState, refuses_next}

-- names and their bytes, the newest first
abbrev pub Files : Type 0
Files = List (List ℕ × List ℕ)

-- the bytes under a name: the newest
abbrev pub held_under : Files → List ℕ → Option (List ℕ)
held_under [] name = None
held_under (file ∷ older) name = if bytes_eq file.0 name then Some file.1 else held_under older name

-- what a shelf holds, its reads, and the names of those that failed
pub record ShelfState : Type 0 where
  pub files : Files
  pub reads : CallState
  pub failed : List (List ℕ)

-- the bytes of a file, where there are at most limit
abbrev pub within : ℕ → Option (List ℕ) → Result (List ℕ) ShelfFault
within limit None = Err Failed
within limit (Some bytes) = if nat_le (length bytes) limit then Ok bytes else Err (TooLong (limit + 1))

-- what a read gives
abbrev pub read_gives : ShelfState → List ℕ → ℕ → Result (List ℕ) ShelfFault
read_gives shelf name limit = if refuses_next shelf.reads then Err Failed else within limit (held_under shelf.files name)

-- the answer of a read is what it gives, want of memory aside
abbrev pub Answers : {A : Type 0} → Result (Vec ℕ A) ShelfFault → Result (List ℕ) ShelfFault → Type 0
Answers (Ok bytes) gives = gives ≡ Ok bytes.items
Answers (Err Failed) gives = gives ≡ Err Failed
Answers (Err (TooLong taken)) gives = gives ≡ Err (TooLong taken)
Answers (Err NoMemory) gives = ⊤
