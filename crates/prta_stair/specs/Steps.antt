-- Lists of chances by the places where they rise.
use Rattle.std.specs.Prelude.{ℕ, ◌<◌, ◌≤◌, Bool, nat_lt, nat_le, if◌then◌else◌, List, map, fold, length, slice_index_or}
use Rattle.std.specs.List.{range_with_len, filter}
use Rattle.prta_mass.specs.Unit.{unit}
use Rattle.prta_mass.specs.Chances.{at, before, cells_of}

-- a step is a place, and the list's value from there on
abbrev pub Steps : Type 0
Steps = List (ℕ × ℕ)

-- the list rises at place k: its value there is above the one just before, which is 0 before place 0
abbrev pub rises_at : List ℕ → ℕ → Bool
rises_at cells k = nat_lt (before (at cells) k 1) (at cells k)

-- the places where a list rises, in order, each with the list's value there
abbrev pub steps_of : List ℕ → Steps
steps_of cells = map (λ k. (k, at cells k)) (filter (rises_at cells) (range_with_len 0 (length cells)))

-- the value at a place: that of the last step at or before it, and 0 before the first step
abbrev pub value_at : Steps → ℕ → ℕ
value_at steps k = fold (λ value step. if nat_le step.0 k then step.1 else value) 0 steps

-- the list of so many cells that has these steps
abbrev pub cells_by_steps : ℕ → Steps → List ℕ
cells_by_steps cap steps = cells_of cap (value_at steps)

-- the place of step i, and the value there
abbrev pub place : Steps → ℕ → ℕ
place steps i = (slice_index_or steps i (0, 0)).0

abbrev pub height : Steps → ℕ → ℕ
height steps i = (slice_index_or steps i (0, 0)).1

-- an earlier step stands at an earlier place, and lower
abbrev pub AreRising : Steps → Type 0
AreRising steps = (i j : ℕ) → i < j → j < length steps → (place steps i < place steps j) × (height steps i < height steps j)

-- what holds of the steps of a list of chances of so many cells
pub record AreSteps (cap : ℕ) (steps : Steps) : Type 0 where
  pub rising : AreRising steps
  pub some : (i : ℕ) → i < length steps → 0 < height steps i
  pub limited : (i : ℕ) → i < length steps → height steps i ≤ unit
  pub below : (i : ℕ) → i < length steps → place steps i < cap
