-- Lists of chances by the places where they rise.
use Rattle.std.specs.Prelude.{◌≡◌, ℕ, ◌+◌, ◌-◌, ◌<◌, ◌≤◌, nat_lt, nat_le, if◌then◌else◌, List, [], ◌∷◌, map, fold, length, All, slice_index_or}
use Rattle.std.specs.List.Sorted.{IsStrictlyIncreasing}
use Rattle.prta_mass.specs.Unit.{unit}
use Rattle.prta_mass.specs.Chances.{cells_of}

-- a step is a place, and the list's value from there on

-- the steps of cells that stand from place k on, after a value
abbrev pub steps_from : ℕ → ℕ → List ℕ → List (ℕ × ℕ)
steps_from k value [] = []
steps_from k value (x ∷ xs) = if nat_lt value x then (k, x) ∷ steps_from (k + 1) x xs else steps_from (k + 1) value xs

-- the places where a list rises, beginning with a 0 before the first cell, with the values there
abbrev pub steps_of : List ℕ → List (ℕ × ℕ)
steps_of cells = steps_from 0 0 cells

-- the value at a place: that of the last step at or before it, and 0 before the first step
abbrev pub value_at : List (ℕ × ℕ) → ℕ → ℕ
value_at steps k = fold (λ value step. if nat_le step.0 k then step.1 else value) 0 steps

-- the list of so many cells that has these steps
abbrev pub cells_by_steps : ℕ → List (ℕ × ℕ) → List ℕ
cells_by_steps cap steps = cells_of cap (value_at steps)

abbrev pub places : List (ℕ × ℕ) → List ℕ
places steps = map (λ step. step.0) steps

abbrev pub values : List (ℕ × ℕ) → List ℕ
values steps = map (λ step. step.1) steps

-- what holds of all steps: the places rise, the values rise from a 0 before the first on, and none is above the unit
pub record IsSteps (steps : List (ℕ × ℕ)) : Type 0 where
  pub rising_places : IsStrictlyIncreasing (places steps)
  pub rising_values : IsStrictlyIncreasing (0 ∷ values steps)
  pub limited : All (λ step. step.1 ≤ unit) steps

-- each place is below the cap
abbrev pub AreBelow : ℕ → List (ℕ × ℕ) → Type 0
AreBelow cap steps = All (λ step. step.0 < cap) steps

-- the last value, and 0 where there is no step
abbrev pub last_value : List (ℕ × ℕ) → ℕ
last_value steps = (slice_index_or steps (length steps - 1) (0, 0)).1

-- nothing stands at infinity: the last value is the unit
abbrev pub IsWholeSteps : List (ℕ × ℕ) → Type 0
IsWholeSteps steps = last_value steps ≡ unit
