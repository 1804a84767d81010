-- Lists of chances: cell k is the chance of a backlog of at most k ticks, in units of 2^-60.
use Rattle.std.specs.Prelude.{◌≡◌, ℕ, ◌-◌, ◌≤◌, nat_lt, nat_le, if◌then◌else◌, List, map, length, All, slice_index_or}
use Rattle.std.specs.List.{range_with_len}
use Rattle.std.specs.List.Sorted.{IsNonDecreasing}
use Rattle.prta_mass.specs.Unit.{unit}

-- the last cell
abbrev pub last : List ℕ → ℕ
last cells = slice_index_or cells (length cells - 1) 0

-- the value at a place: past the last cell it is the last cell's
abbrev pub at : List ℕ → ℕ → ℕ
at cells k = slice_index_or cells k (last cells)

-- the value c places before place k: at negative places it is 0
abbrev pub before : (ℕ → ℕ) → ℕ → ℕ → ℕ
before F k c = if nat_le c k then F (k - c) else 0

-- the list of n cells with the value F k at k
abbrev pub cells_of : ℕ → (ℕ → ℕ) → List ℕ
cells_of n F = map F (range_with_len 0 n)

-- what holds of every list of chances: the cells don't fall, and none is above the unit
pub record IsChances (cells : List ℕ) : Type 0 where
  pub rising : IsNonDecreasing cells
  pub limited : All (λ cell. cell ≤ unit) cells

-- nothing stands at infinity
abbrev pub IsWhole : List ℕ → Type 0
IsWhole cells = last cells ≡ unit

-- one list dominates another: at no place is it above it
abbrev pub Dominates : List ℕ → List ℕ → Type 0
Dominates above below = (k : ℕ) → at above k ≤ at below k

-- a backlog of just b ticks: 0 below b, the unit from b on
abbrev pub point : ℕ → ℕ → List ℕ
point cap b = cells_of cap (λ k. if nat_lt k b then 0 else unit)
