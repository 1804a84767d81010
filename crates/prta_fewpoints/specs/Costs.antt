-- The least costs that the code keeps, row by row: row j has those of j chosen times, by the place from which on they move pairs.
use Rattle.std.specs.Prelude.{◌≡◌, ℕ, ◌+◌, ◌*◌, ◌≤◌, ◌<◌, Option, None, List, length, drop, All, slice_index_or}
use Rattle.prta_mass.specs.Table.{Table}
use Rattle.prta_fewpoints.specs.Recursion.{least_cost}

-- there are n + 1 places, the end included
abbrev pub place_of : ℕ → ℕ → ℕ → ℕ
place_of n j i = j * (n + 1) + i

-- the cells are the least costs, of those places that they have
abbrev pub AreCosts : Table → List (Option ℕ) → Type 0
AreCosts pairs cells = (j i : ℕ) → i ≤ length pairs → place_of (length pairs) j i < length cells → slice_index_or cells (place_of (length pairs) j i) None ≡ least_cost j (drop i pairs)

-- the times are at most 1,000,000
abbrev pub AreShort : Table → Type 0
AreShort pairs = All (λ pair. pair.0 ≤ 1000000) pairs
