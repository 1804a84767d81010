-- Worked files of counts.
use Rattle.std.specs.Prelude.{◌≡◌, ℕ, Some, None, List, [], ◌∷◌, codes}
use Rattle.prta_mass.specs.Table.{Table}
use Rattle.prta_sheet.specs.Sheet.{Task, Sheet}
use Rattle.prta_times.specs.Counts.{Count, counted, with_counted, rows_fault, tables_fault, counts_fault, reduced_fault, sheet_with, reduced_sheet}
use Rattle.prta_times.specs.declared.points.Points.TheVariants.{Every}
use Rattle.prta_times.specs.declared.fault.CountsFault.TheVariants.{BadHeader, BadRow, UnknownTask}

abbrev pub count : List ℕ → ℕ → ℕ → Count
count name time weight = record { task = name; time = time; weight = weight }

-- A takes 3 with a weight of 2 and then of 1, and 7 with 1
abbrev pub three_counts : List Count
three_counts = count (codes "A") 3 2 ∷ count (codes "A") 7 1 ∷ count (codes "A") 3 1 ∷ []

abbrev pub task : List ℕ → Table → Task
task name table = record { name = name; offset = 0; period = 10; deadline = 5; cycle = table ∷ []; allow = (0, 1) }

-- a sheet with a cap of 12
abbrev pub sheet : List Task → Sheet
sheet tasks = record { settings = record { cap = 12; hyperperiods = 1; turns = 16; support = None }; tasks = tasks }

abbrev pub one_task : Sheet
one_task = sheet (task (codes "A") ((1, 1) ∷ []) ∷ [])

abbrev pub header : List (List ℕ)
header = codes "task" ∷ codes "time" ∷ codes "weight" ∷ []

abbrev pub row : List ℕ → List ℕ → List ℕ → List (List ℕ)
row name time weight = name ∷ time ∷ weight ∷ []

pub record WorkedCounts : Type 0 where
  pub sums : counted (codes "A") three_counts ≡ (3, 3) ∷ (7, 1) ∷ []
  pub rising : counted (codes "A") (count (codes "A") 7 1 ∷ count (codes "A") 3 2 ∷ []) ≡ (3, 2) ∷ (7, 1) ∷ []
  pub others_aside : counted (codes "A") (count (codes "B") 4 9 ∷ three_counts) ≡ (3, 3) ∷ (7, 1) ∷ []
  -- a task without counts keeps its cycle
  pub kept : with_counted Every three_counts (task (codes "B") ((2, 5) ∷ [])) ≡ task (codes "B") ((2, 5) ∷ [])
  pub replaced : with_counted Every three_counts (task (codes "A") ((2, 5) ∷ [])) ≡ task (codes "A") ((3, 3) ∷ (7, 1) ∷ [])
  pub good_rows : rows_fault (header ∷ row (codes "A") (codes "3") (codes "2") ∷ []) ≡ None
  pub no_rows : rows_fault [] ≡ Some BadHeader
  pub short_header : rows_fault ((codes "task" ∷ codes "time" ∷ []) ∷ []) ≡ Some BadHeader
  pub zero_time : rows_fault (header ∷ row (codes "A") (codes "0") (codes "1") ∷ []) ≡ Some (BadRow 1)
  pub zero_weight : rows_fault (header ∷ row (codes "A") (codes "3") (codes "1") ∷ row (codes "A") (codes "3") (codes "0") ∷ []) ≡ Some (BadRow 2)
  pub good_tables : tables_fault Every one_task three_counts ≡ None
  pub unknown : tables_fault Every one_task (count (codes "A") 3 1 ∷ count (codes "C") 3 1 ∷ []) ≡ Some (UnknownTask 2)
  -- a whole file
  pub faultless : counts_fault one_task (codes "task,time,weight\nA,3,2\nA,7,1\nA,3,1\n") ≡ None
  pub made : sheet_with one_task (codes "task,time,weight\nA,3,2\nA,7,1\nA,3,1\n") ≡ sheet (task (codes "A") ((3, 3) ∷ (7, 1) ∷ []) ∷ [])
  -- the same file with its times reduced to one
  pub reduced_faultless : reduced_fault 1 one_task (codes "task,time,weight\nA,3,2\nA,7,1\nA,3,1\n") ≡ None
  pub reduced_made : reduced_sheet 1 one_task (codes "task,time,weight\nA,3,2\nA,7,1\nA,3,1\n") ≡ sheet (task (codes "A") ((7, 4) ∷ []) ∷ [])
