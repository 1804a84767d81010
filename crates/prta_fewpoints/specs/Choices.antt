-- Choices of some times of a wide table, where they move its weights, and what that costs.
use Rattle.std.specs.Prelude.{◌≡◌, ℕ, ◌-◌, ◌*◌, ◌≤◌, ◌<◌, ◌⊎◌, min, nat_le, nat_eq, if◌then◌else◌, List, [], ◌∷◌, map, filter, sum_by, length, All, Contains}
use Rattle.std.specs.List.Sorted.{IsStrictlyIncreasing}
use Rattle.prta_mass.specs.Table.{Table, times, greatest}

-- a choice for k of the times of a table: a list of min(k, n) of its n times, by rising time, that holds the greatest
pub record IsChoice (wide : Table) (k : ℕ) (chosen : List ℕ) : Type 0 where
  pub rising : IsStrictlyIncreasing chosen
  pub within : All (λ time. Contains (times wide) time) chosen
  pub count : length chosen ≡ min k (length wide)
  pub holds : Contains chosen (greatest wide)

-- the least chosen time that isn't below this one; the chosen times rise
abbrev pub moved_to : List ℕ → ℕ → ℕ
moved_to [] time = time
moved_to (c ∷ chosen) time = if nat_le time c then c else moved_to chosen time

-- the sum of each weight times the ticks that it moved
abbrev pub cost : List ℕ → Table → ℕ
cost chosen wide = sum_by (λ pair. pair.1 * (moved_to chosen pair.0 - pair.0)) wide

-- the weight that a choice moves to a time
abbrev pub weight_at : List ℕ → Table → ℕ → ℕ
weight_at chosen wide time = sum_by (λ pair. pair.1) (filter (λ pair. nat_eq (moved_to chosen pair.0) time) wide)

-- the table that a choice makes: each chosen time with the weight that is moved to it
abbrev pub merged : List ℕ → Table → Table
merged chosen wide = map (λ time. (time, weight_at chosen wide time)) chosen

-- a list of times comes first, compared from the least time on, or is equal
abbrev pub IsFirst : List ℕ → List ℕ → Type 0
IsFirst [] others = Unit {0}
IsFirst (time ∷ later) [] = ⊥
IsFirst (time ∷ later) (other ∷ others) = (time < other) ⊎ ((time ≡ other) × IsFirst later others)

-- a table is the reduction: that of the choice of least cost, and among these of the one whose list of times is first
pub record IsReduction (wide : Table) (k : ℕ) (table : Table) : Type 0 where
  pub choice : IsChoice wide k (times table)
  pub merges : table ≡ merged (times table) wide
  pub least : (other : List ℕ) → IsChoice wide k other → cost (times table) wide ≤ cost other wide
  pub first : (other : List ℕ) → IsChoice wide k other → cost other wide ≡ cost (times table) wide → IsFirst (times table) other
