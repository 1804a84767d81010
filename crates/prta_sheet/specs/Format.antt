-- The format of a sheet's document: its tables, their keys, and the kind and the range of each value.
use Rattle.std.specs.Prelude.{ℕ, ℤ, pos, negsuc, Bool, true, false, ◌+◌, ◌&&◌, ◌^◌, nat_le, nat_eq, is_some, List, [], ◌∷◌, codes}
use Rattle.toml.specs.Data.{Data, integer, array, Items, no_items, item, Members, get_member, as_integer, as_str, as_table}
use Rattle.prta_sheet.specs.declared.fault.Key.{Key}
use Rattle.prta_sheet.specs.declared.fault.Key.TheVariants.{Format, Cap, Hyperperiods, Turns, Support, Fine, Step, Task, Name, Offset, Period, Deadline, Times, Cycle, Allow}

-- ---- kinds

abbrev pub is_integer : Data → Bool
is_integer d = is_some (as_integer d)

abbrev pub is_text : Data → Bool
is_text d = is_some (as_str d)

abbrev pub is_table : Data → Bool
is_table d = is_some (as_table d)

-- each item passes a test
abbrev pub each_item : (Data → Bool) → Items → Bool
each_item test no_items = true
each_item test (item first rest) = test first && each_item test rest

-- an array whose elements all pass a test
abbrev pub is_array_of : (Data → Bool) → Data → Bool
is_array_of test (array items) = each_item test items
is_array_of test _ = false

-- an array of two integers, which pass a test
abbrev pub is_pair_with : (ℤ → ℤ → Bool) → Data → Bool
is_pair_with test (array (item (integer a) (item (integer b) no_items))) = test a b
is_pair_with test _ = false

abbrev pub is_pair : Data → Bool
is_pair d = is_pair_with (λ a b. true) d

-- ---- ranges

abbrev pub is_within : ℕ → ℕ → ℤ → Bool
is_within low high (pos n) = nat_le low n && nat_le n high
is_within low high (negsuc n) = false

abbrev pub is_natural : ℤ → Bool
is_natural (pos n) = true
is_natural (negsuc n) = false

-- an integer from low to high
abbrev pub is_from_to : ℕ → ℕ → Data → Bool
is_from_to low high (integer n) = is_within low high n
is_from_to low high _ = false

-- a time of 0 to 1,000,000 and a weight of at least 0
abbrev pub is_time_with_weight : ℤ → ℤ → Bool
is_time_with_weight time weight = is_within 0 1000000 time && is_natural weight

-- p of q: q is 1 to 10^18, and p is 0 to q
abbrev pub is_share : ℤ → ℤ → Bool
is_share p (pos q) = (nat_le 1 q && nat_le q (10 ^ 18)) && is_within 0 q p
is_share p (negsuc q) = false

-- the pairs of a table
abbrev pub is_times : Data → Bool
is_times d = is_array_of (is_pair_with is_time_with_weight) d

abbrev pub item_count : Items → ℕ
item_count no_items = 0
item_count (item first rest) = 1 + item_count rest

-- 1 to 16 tables, and their pairs
abbrev pub is_cycle : Data → Bool
is_cycle (array items) = (nat_le 1 (item_count items) && nat_le (item_count items) 16) && each_item is_times items
is_cycle _ = false

-- ---- keys

-- a key of a table: its text, whether it is needed, and what its value is
pub record Row : Type 0 where
  pub text : List ℕ
  pub key : Key
  pub needed : Bool
  pub kind : Data → Bool
  pub range : Data → Bool

abbrev pub any : Data → Bool
any d = true

abbrev pub top_rows : List Row
top_rows =
    record { text = codes "format"; key = Format; needed = true; kind = is_integer; range = is_from_to 1 2 }
    ∷ record { text = codes "cap"; key = Cap; needed = false; kind = is_integer; range = is_from_to 3 16384 }
    ∷ record { text = codes "hyperperiods"; key = Hyperperiods; needed = false; kind = is_integer; range = is_from_to 1 64 }
    ∷ record { text = codes "turns"; key = Turns; needed = false; kind = is_integer; range = is_from_to 0 64 }
    ∷ record { text = codes "support"; key = Support; needed = false; kind = is_table; range = any }
    ∷ record { text = codes "task"; key = Task; needed = true; kind = is_array_of is_table; range = any }
    ∷ []

abbrev pub support_rows : List Row
support_rows =
    record { text = codes "fine"; key = Fine; needed = true; kind = is_integer; range = is_from_to 0 16383 }
    ∷ record { text = codes "step"; key = Step; needed = true; kind = is_integer; range = is_from_to 1 16384 }
    ∷ []

abbrev pub times_row : Row
times_row = record { text = codes "times"; key = Times; needed = true; kind = is_array_of is_pair; range = is_times }

abbrev pub cycle_row : Row
cycle_row = record { text = codes "cycle"; key = Cycle; needed = true; kind = is_array_of (is_array_of is_pair); range = is_cycle }

-- in format 2 a task may have the key `cycle` in place of `times`
abbrev pub states_cycle : ℕ → Members → Bool
states_cycle format table = nat_eq format 2 && is_some (get_member (codes "cycle") table)

abbrev pub tables_row : Bool → Row
tables_row true = cycle_row
tables_row false = times_row

-- the rows of a task that states a cycle, or doesn't
abbrev pub task_rows : Bool → List Row
task_rows cycle =
    record { text = codes "name"; key = Name; needed = true; kind = is_text; range = any }
    ∷ record { text = codes "offset"; key = Offset; needed = false; kind = is_integer; range = is_from_to 0 999999 }
    ∷ record { text = codes "period"; key = Period; needed = true; kind = is_integer; range = is_from_to 1 1000000 }
    ∷ record { text = codes "deadline"; key = Deadline; needed = true; kind = is_integer; range = is_from_to 1 1000000 }
    ∷ tables_row cycle
    ∷ record { text = codes "allow"; key = Allow; needed = false; kind = is_pair; range = is_pair_with is_share }
    ∷ []
