-- The parts of the reading that stand in functions of their own.
use Rattle.std.specs.Prelude.{◌≡◌, ℕ, ◌≤◌, true, nat_lt, if◌then◌else◌, Option, Some, None, List, [], ◌∷◌, length, flat_map, All}
use Rattle.std.specs.List.{list_any}
use Rattle.prta_mass.specs.Table.{Table, IsTable}
use Rattle.prta_fewpoints.specs.Wide.{IsWide}
use Rattle.prta_sheet.specs.declared.limits.TheConstants.{TIME_LIMIT}
use Rattle.prta_sheet.specs.Sheet.{Task, Sheet}
use Rattle.prta_times.specs.declared.points.Points.{Points}
use Rattle.prta_times.specs.declared.points.Points.TheVariants.{Every, AtMost}
use Rattle.prta_times.specs.Counts.{Count, with_weight, is_of, count_in, counts_of, counted, unknown_task, too_many_points, total_too_large}

-- the fields of a record of three
abbrev pub three_of : List (List ℕ) → Option (List ℕ × List ℕ × List ℕ)
three_of (first ∷ second ∷ third ∷ []) = Some (first, second, third)
three_of _ = None

-- the counts of records
abbrev pub counts_among : List (List (List ℕ)) → List Count
counts_among rows = flat_map (λ fields. counts_of (count_in fields)) rows

-- the time and the weight of a count are in their ranges
pub record IsInRange (count : Count) : Type 0 where
  pub some_time : 1 ≤ count.time
  pub short : count.time ≤ TIME_LIMIT
  pub some_weight : 1 ≤ count.weight

-- a table with a count added, where that is of the task of this name
abbrev pub with_count : List ℕ → Table → Count → Table
with_count name table count = if is_of name count then with_weight count.time count.weight table else table

-- a table that hasn't more than so many points
abbrev pub within_limit : ℕ → Table → Option Table
within_limit most table = if nat_lt most (length table) then None else Some table

-- a number of points that can be asked for
abbrev pub CanAsk : Points → Type 0
CanAsk Every = Unit {0}
CanAsk (AtMost k) = (1 ≤ k) × (k ≤ 32)

-- counted times that can be reduced to at most k
pub record CanReduce (k : ℕ) (table : Table) : Type 0 where
  pub wide : IsWide table
  pub some : 1 ≤ k
  pub few : k ≤ 32
  pub short : All (λ pair. pair.0 ≤ 1000000) table

-- counted times that make a table
abbrev pub CanMake : Points → Table → Type 0
CanMake Every table = IsTable table
CanMake (AtMost k) table = CanReduce k table

-- the counted times of a task that has a count make a table
abbrev pub HasTable : Points → List Count → Task → Type 0
HasTable points counts task = list_any (is_of task.name) counts ≡ true → CanMake points (counted task.name counts)

-- each count has a task, and no task has too many times or too large a total: what is left to test is the work
pub record AreTested (points : Points) (sheet : Sheet) (counts : List Count) : Type 0 where
  pub known : unknown_task sheet.tasks counts ≡ None
  pub few : too_many_points points sheet.tasks counts ≡ None
  pub light : total_too_large sheet.tasks counts ≡ None
