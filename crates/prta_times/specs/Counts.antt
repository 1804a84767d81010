-- A file of measured counts: its records, the first condition that fails, and the sheet that it makes.
use Rattle.std.specs.Prelude.{ℕ, ◌+◌, Bool, false, not, ◌&&◌, nat_eq, nat_lt, if◌then◌else◌, Option, Some, None, is_some, option_map, List, [], ◌∷◌, length, map, flat_map, fold, position, codes, bytes_eq}
use Rattle.std.specs.List.{list_any}
use Rattle.csv.specs.Reading.{default_config, records, strip_bom}
use Rattle.prta_number.specs.Decimal.{number_within}
use Rattle.prta_mass.specs.Table.{Table, or_else, when, total}
use Rattle.prta_mass.specs.declared.table.TheConstants.{TOTAL_LIMIT}
use Rattle.prta_sheet.specs.declared.limits.TheConstants.{TIME_LIMIT, WORK_LIMIT}
use Rattle.prta_sheet.specs.Document.{◌>>=◌}
use Rattle.prta_sheet.specs.Sheet.{Task, Sheet}
use Rattle.prta_sheet.specs.Work.{work}
use Rattle.prta_times.specs.declared.fault.CountsFault.{CountsFault}
use Rattle.prta_times.specs.declared.fault.CountsFault.TheVariants.{TooLong, BadHeader, BadRow, UnknownTask, TooManyPoints, TotalTooLarge, TooMuchWork, NoMemory}
use Rattle.prta_times.specs.declared.limits.TheConstants.{COUNTS_LIMIT}
use Rattle.prta_times.specs.declared.points.Points.{Points}
use Rattle.prta_times.specs.declared.points.Points.TheVariants.{Every, AtMost}
use Rattle.prta_times.specs.Points.{most_times, table_by}

-- ---- the records

-- those that `csv` defines for the bytes, each a list of fields
abbrev pub records_in : List ℕ → List (List (List ℕ))
records_in bytes = records default_config (strip_bom bytes)

-- the three fields of the first record
abbrev pub is_header : List (List ℕ) → Bool
is_header (task ∷ time ∷ weight ∷ []) = bytes_eq task (codes "task") && (bytes_eq time (codes "time") && bytes_eq weight (codes "weight"))
is_header _ = false

abbrev pub has_header : List (List (List ℕ)) → Bool
has_header [] = false
has_header (first ∷ rest) = is_header first

-- the records after the first
abbrev pub later_records : List (List (List ℕ)) → List (List (List ℕ))
later_records [] = []
later_records (first ∷ rest) = rest

-- how often a task was seen to take a time
pub record Count : Type 0 where
  pub task : List ℕ
  pub time : ℕ
  pub weight : ℕ

-- the count of three fields, of which the second is a time and the third a weight
abbrev pub count_in : List (List ℕ) → Option Count
count_in (task ∷ time ∷ weight ∷ []) =
    number_within 1 TIME_LIMIT time >>= (λ t. number_within 1 TOTAL_LIMIT weight >>= (λ w. Some (record { task = task; time = t; weight = w })))
count_in _ = None

abbrev pub is_count : List (List ℕ) → Bool
is_count fields = is_some (count_in fields)

-- the count of a record, in a list
abbrev pub counts_of : Option Count → List Count
counts_of None = []
counts_of (Some count) = count ∷ []

-- the counts of the file
abbrev pub counts_in : List ℕ → List Count
counts_in bytes = flat_map (λ fields. counts_of (count_in fields)) (later_records (records_in bytes))

-- ---- the tables

-- a table with a weight added at a time
abbrev pub with_weight : ℕ → ℕ → Table → Table
with_weight time weight [] = (time, weight) ∷ []
with_weight time weight (pair ∷ pairs) =
    if nat_lt time pair.0 then (time, weight) ∷ pair ∷ pairs
    else if nat_eq time pair.0 then (time, pair.1 + weight) ∷ pairs
    else pair ∷ with_weight time weight pairs

-- the counts of a task
abbrev pub is_of : List ℕ → Count → Bool
is_of name count = bytes_eq count.task name

-- a task's counted times, by rising time, each with the sum of its weights
abbrev pub counted : List ℕ → List Count → Table
counted name counts = fold (λ table count. if is_of name count then with_weight count.time count.weight table else table) [] counts

-- a task that has a count gets a cycle of the one table of its counted times; the others keep theirs
abbrev pub with_counted : Points → List Count → Task → Task
with_counted points counts task = if list_any (is_of task.name) counts then record task { cycle = table_by points (counted task.name counts) ∷ [] } else task

abbrev pub counted_sheet : Points → Sheet → List Count → Sheet
counted_sheet points sheet counts = record sheet { tasks = map (with_counted points counts) sheet.tasks }

-- the sheet that the file makes
abbrev pub sheet_by : Points → Sheet → List ℕ → Sheet
sheet_by points sheet bytes = counted_sheet points sheet (counts_in bytes)

-- with each counted time, and with the counted times reduced to at most k
abbrev pub sheet_with : Sheet → List ℕ → Sheet
sheet_with sheet bytes = sheet_by Every sheet bytes

abbrev pub reduced_sheet : ℕ → Sheet → List ℕ → Sheet
reduced_sheet k sheet bytes = sheet_by (AtMost k) sheet bytes

-- ---- the first condition that fails, each over the whole file before the next

-- the first later record, counted from 1, that gives no count
abbrev pub bad_row : List (List (List ℕ)) → Option ℕ
bad_row rows = option_map (λ k. k + 1) (position (λ fields. not (is_count fields)) rows)

-- a task of the sheet has the name
abbrev pub has_task : List Task → List ℕ → Bool
has_task tasks name = list_any (λ task. bytes_eq task.name name) tasks

-- the first count, counted from 1, whose task isn't on the sheet
abbrev pub unknown_task : List Task → List Count → Option ℕ
unknown_task tasks counts = option_map (λ k. k + 1) (position (λ count. not (has_task tasks count.task)) counts)

-- the first task with too many different times
abbrev pub too_many_points : Points → List Task → List Count → Option ℕ
too_many_points points tasks counts = position (λ task. nat_lt (most_times points) (length (counted task.name counts))) tasks

-- the first task whose weights sum to too much
abbrev pub total_too_large : List Task → List Count → Option ℕ
total_too_large tasks counts = position (λ task. nat_lt TOTAL_LIMIT (total (counted task.name counts))) tasks

abbrev pub too_much_work : Sheet → Option CountsFault
too_much_work sheet = when (nat_lt WORK_LIMIT (work sheet)) (TooMuchWork (work sheet))

abbrev pub tables_fault : Points → Sheet → List Count → Option CountsFault
tables_fault points sheet counts =
    or_else (option_map (λ n. UnknownTask n) (unknown_task sheet.tasks counts))
    (or_else (option_map (λ i. TooManyPoints i) (too_many_points points sheet.tasks counts))
    (or_else (option_map (λ i. TotalTooLarge i) (total_too_large sheet.tasks counts))
    (too_much_work (counted_sheet points sheet counts))))

abbrev pub rows_fault : List (List (List ℕ)) → Option CountsFault
rows_fault rows = or_else (when (not (has_header rows)) BadHeader) (option_map (λ n. BadRow n) (bad_row (later_records rows)))

-- none where the file makes a sheet
abbrev pub fault_by : Points → Sheet → List ℕ → Option CountsFault
fault_by points sheet bytes =
    or_else (when (nat_lt COUNTS_LIMIT (length bytes)) TooLong)
    (or_else (rows_fault (records_in bytes))
    (tables_fault points sheet (counts_in bytes)))

abbrev pub counts_fault : Sheet → List ℕ → Option CountsFault
counts_fault sheet bytes = fault_by Every sheet bytes

abbrev pub reduced_fault : ℕ → Sheet → List ℕ → Option CountsFault
reduced_fault k sheet bytes = fault_by (AtMost k) sheet bytes

-- the number of a condition; 0 for want of memory
abbrev pub number_of : CountsFault → ℕ
number_of TooLong = 1
number_of BadHeader = 2
number_of (BadRow n) = 3
number_of (UnknownTask n) = 4
number_of (TooManyPoints i) = 5
number_of (TotalTooLarge i) = 6
number_of (TooMuchWork n) = 7
number_of NoMemory = 0
