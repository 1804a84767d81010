-- Time tables: the pairs, their total, and what makes a list of pairs no table.
use Rattle.std.specs.Prelude.{◌≡◌, ◌↔◌, ℕ, ◌-◌, ◌*◌, ◌<◌, ◌≤◌, Option, Some, None, Bool, nat_eq, nat_lt, nat_le, if◌then◌else◌, List, map, length, position, find, sum_by, option_map, All, slice_index_or}
use Rattle.std.specs.List.{range_with_len}
use Rattle.std.specs.List.Sorted.{IsStrictlyIncreasing}
use Rattle.prta_mass.specs.declared.table.TheConstants.{POINT_LIMIT, TOTAL_LIMIT}
use Rattle.prta_mass.specs.declared.table.TableFault.{TableFault}
use Rattle.prta_mass.specs.declared.table.TableFault.TheVariants.{Empty, TooManyPoints, ZeroTime, NotIncreasing, ZeroWeight, TotalTooLarge}

-- pairs of a time and its weight
abbrev pub Table : Type 0
Table = List (ℕ × ℕ)

-- W, the sum of the weights
abbrev pub total : Table → ℕ
total pairs = sum_by (λ pair. pair.1) pairs

-- the sum of time times weight: the mean time multiplied by the total
abbrev pub mean_times_total : Table → ℕ
mean_times_total pairs = sum_by (λ pair. pair.0 * pair.1) pairs

-- the times alone
abbrev pub times : Table → List ℕ
times pairs = map (λ pair. pair.0) pairs

-- the last time, or 0 where there is none
abbrev pub greatest : Table → ℕ
greatest pairs = (slice_index_or pairs (length pairs - 1) (0, 0)).0

-- pairs that make a table of at most so many points
pub record IsTableWithin (most : ℕ) (pairs : Table) : Type 0 where
  pub some : 0 < length pairs
  pub few : length pairs ≤ most
  pub positive_times : All (λ pair. 0 < pair.0) pairs
  pub increasing : IsStrictlyIncreasing (times pairs)
  pub positive_weights : All (λ pair. 0 < pair.1) pairs
  pub weighs : 0 < total pairs
  pub limited : total pairs ≤ TOTAL_LIMIT

-- what holds of every time table that is made
abbrev pub IsTable : Table → Type 0
IsTable pairs = IsTableWithin POINT_LIMIT pairs

-- the first of two answers that is there
abbrev pub or_else : {X : Type 0} → Option X → Option X → Option X
or_else None next = next
or_else (Some x) next = Some x

-- an answer where a test holds
abbrev pub when : {X : Type 0} → Bool → X → Option X
when holds x = if holds then Some x else None

-- the first pair with time 0, and with weight 0
abbrev pub zero_time : Table → Option ℕ
zero_time pairs = position (λ pair. nat_eq pair.0 0) pairs

abbrev pub zero_weight : Table → Option ℕ
zero_weight pairs = position (λ pair. nat_eq pair.1 0) pairs

-- the time at a place is not above the one before
abbrev pub falls_at : Table → ℕ → Bool
falls_at pairs i = nat_le (slice_index_or pairs i (0, 0)).0 (slice_index_or pairs (i - 1) (0, 0)).0

-- the first place from 1 on whose time isn't above the one before
abbrev pub not_increasing : Table → Option ℕ
not_increasing pairs = find (falls_at pairs) (range_with_len 1 (length pairs - 1))

-- what the first test of the pairs that fails says where at most so many are allowed, the weights' sum aside
abbrev pub shape_within : ℕ → Table → Option TableFault
shape_within most pairs =
    or_else (when (nat_eq (length pairs) 0) Empty)
    (or_else (when (nat_lt most (length pairs)) (TooManyPoints (length pairs)))
    (or_else (option_map ZeroTime (zero_time pairs))
    (or_else (option_map NotIncreasing (not_increasing pairs))
    (option_map ZeroWeight (zero_weight pairs)))))

-- what the first test that fails says; none where the pairs make a table of at most so many points
abbrev pub fault_within : ℕ → Table → Option TableFault
fault_within most pairs = or_else (shape_within most pairs) (when (nat_lt TOTAL_LIMIT (total pairs)) TotalTooLarge)

-- the pairs that make a table of at most so many points are those without a fault
abbrev pub FaultlessWithin : ℕ → Type 0
FaultlessWithin most = (pairs : Table) → (fault_within most pairs ≡ None) ↔ IsTableWithin most pairs

-- of a time table
abbrev pub shape_fault : Table → Option TableFault
shape_fault pairs = shape_within POINT_LIMIT pairs

abbrev pub fault_of : Table → Option TableFault
fault_of pairs = fault_within POINT_LIMIT pairs

abbrev pub FaultlessPairs : Type 0
FaultlessPairs = FaultlessWithin POINT_LIMIT
