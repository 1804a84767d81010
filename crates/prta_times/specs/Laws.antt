-- What the tables of a file of counts are, and that the sheet with them is accepted.
use Rattle.std.specs.Prelude.{◌≡◌, ℕ, ◌≤◌, ◌&&◌, nat_eq, None, List, filter, sum_by}
use Rattle.std.specs.List.Sorted.{IsStrictlyIncreasing}
use Rattle.prta_mass.specs.Table.{Table, times}
use Rattle.prta_sheet.specs.Sheet.{Sheet}
use Rattle.prta_sheet.specs.Accepted.{IsAccepted}
use Rattle.prta_times.specs.LaterTimes.{IsSafeFor}
use Rattle.prta_times.specs.Counts.{Count, is_of, counted, sheet_with, reduced_sheet, counts_fault, reduced_fault}

-- the weight of a time in a table
abbrev pub weight_at : ℕ → Table → ℕ
weight_at time table = sum_by (λ pair. pair.1) (filter (λ pair. nat_eq pair.0 time) table)

-- the weights that the counts give to a time of a task
abbrev pub weight_counted : List ℕ → ℕ → List Count → ℕ
weight_counted name time counts = sum_by (λ count. count.weight) (filter (λ count. is_of name count && nat_eq count.time time) counts)

-- a task's counted times rise, and each has the sum of its weights
pub record AreSums (name : List ℕ) (counts : List Count) : Type 0 where
  pub rising : IsStrictlyIncreasing (times (counted name counts))
  pub sums : (time : ℕ) → weight_at time (counted name counts) ≡ weight_counted name time counts

abbrev pub CountedAreSums : Type 0
CountedAreSums = (name : List ℕ) (counts : List Count) → AreSums name counts

-- a file without a fault makes an accepted sheet of one that was: no other condition on a sheet can fail
abbrev pub CountedAreAccepted : Type 0
CountedAreAccepted = (sheet : Sheet) (bytes : List ℕ) → IsAccepted sheet → counts_fault sheet bytes ≡ None → IsAccepted (sheet_with sheet bytes)

-- the same where the counted times are reduced
abbrev pub ReducedAreAccepted : Type 0
ReducedAreAccepted = (k : ℕ) (sheet : Sheet) (bytes : List ℕ) → 1 ≤ k → k ≤ 32 → IsAccepted sheet → reduced_fault k sheet bytes ≡ None → IsAccepted (reduced_sheet k sheet bytes)

-- and then no exact chance by the tables as they were counted is above the one by the reduced tables
abbrev pub ReducedAreSafe : Type 0
ReducedAreSafe =
    (k : ℕ) (sheet : Sheet) (bytes : List ℕ) → 1 ≤ k → k ≤ 32 → IsAccepted sheet → reduced_fault k sheet bytes ≡ None →
    IsSafeFor (sheet_with sheet bytes).tasks (reduced_sheet k sheet bytes)
