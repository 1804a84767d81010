-- The texts of `analyse`, `ledger`, `check` and `bench`, as functions of a sheet.
use Rattle.std.specs.Prelude.{ℕ, ◌++◌, Bool, true, false, List, length, flat_map, sum_by, count_by, codes}
use Rattle.std.specs.Option.{option_map_or}
use Rattle.prta_sheet.specs.Sheet.{Sheet, sheet_order, hyperperiod}
use Rattle.prta_sheet.specs.Job.{Job}
use Rattle.prta_sheet.specs.Counts.{all_jobs}
use Rattle.prta_backlog.specs.Level.{sheet_level}
use Rattle.prta_backlog.specs.Room.{own_jobs}
use Rattle.prta_dual.specs.declared.bounds.Bounds.{Bounds}
use Rattle.prta_dual.specs.Numbers.{lower, upper}
use Rattle.prta_dual.specs.Entries.{entries, job_sum}
use Rattle.prta_dual.specs.Failing.{failing_job}
use Rattle.prta_certfile.specs.declared.level.CertLevel.{CertLevel}
use Rattle.prta_certfile.specs.declared.level.CertLevel.TheVariants.{Steps}
use Rattle.prta_certificate.specs.Levels.{cert_level}
use Rattle.prta_report.specs.Text.{count_line, size_line, sums_line, line_of_job, record_of_job, line_of_entry, line_of_gap, line_of_no}

-- the two numbers of a job there, and what its entries add up to
abbrev pub bounds_in : Sheet → Job → Bounds
bounds_in sheet job = record { lower = lower sheet (sheet_level job.task) job; upper = upper sheet (sheet_level job.task) job }

abbrev pub sum_in : Sheet → Job → ℕ
sum_in sheet job = job_sum sheet (sheet_level job.task) job

-- the rows of a task: a line for each of its analysed jobs, in order of number
abbrev pub analyse_rows : Sheet → ℕ → List ℕ
analyse_rows sheet i = flat_map (λ job. line_of_job sheet.tasks job (bounds_in sheet job)) (own_jobs sheet i)

-- the same as records
abbrev pub csv_rows : Sheet → ℕ → List ℕ
csv_rows sheet i = flat_map (λ job. record_of_job sheet.tasks job (bounds_in sheet job)) (own_jobs sheet i)

-- its entries, in the ledger's order, and then a line for each of its analysed jobs
abbrev pub entry_rows : Sheet → ℕ → List ℕ
entry_rows sheet i = flat_map (line_of_entry sheet.tasks) (entries sheet (sheet_level i))

abbrev pub gap_rows : Sheet → ℕ → List ℕ
gap_rows sheet i = flat_map (λ job. line_of_gap sheet.tasks job (bounds_in sheet job) (sum_in sheet job)) (own_jobs sheet i)

abbrev pub ledger_rows : Sheet → ℕ → List ℕ
ledger_rows sheet i = entry_rows sheet i ++ gap_rows sheet i

-- a text: its first line, the sheet's counts, the rows of the tasks in sheet order, and the line `end`
abbrev pub rows_text : List ℕ → (Sheet → ℕ → List ℕ) → Sheet → List ℕ
rows_text title rows sheet =
    title ++ count_line (hyperperiod sheet.tasks) (all_jobs sheet) ++ flat_map (rows sheet) (sheet_order sheet.tasks) ++ codes "end\n"

abbrev pub analyse_text : Sheet → List ℕ
analyse_text sheet = rows_text (codes "prta analyse 1\n") analyse_rows sheet

-- the names of the fields, and the records of the tasks in sheet order
abbrev pub csv_text : Sheet → List ℕ
csv_text sheet = codes "task,job,release,deadline,lower,upper\n" ++ flat_map (csv_rows sheet) (sheet_order sheet.tasks)

abbrev pub ledger_text : Sheet → List ℕ
ledger_text sheet = rows_text (codes "prta ledger 1\n") ledger_rows sheet

-- yes, or the first job whose upper number doesn't pass its task's allowance
abbrev pub check_text : Sheet → List ℕ
check_text sheet = codes "prta check 1\n" ++ option_map_or (λ job. line_of_no sheet.tasks job (bounds_in sheet job).upper) (failing_job sheet) (codes "yes\n")

-- ---- `bench`: how much there is of everything

-- how many entries all tasks have
abbrev pub entry_count : Sheet → ℕ
entry_count sheet = sum_by (λ i. length (entries sheet (sheet_level i))) (sheet_order sheet.tasks)

-- what is found for a level is a list
abbrev pub is_list : CertLevel → Bool
is_list (Steps steps) = true
is_list level = false

-- a list is found for the level of a task
abbrev pub is_certified : Sheet → ℕ → Bool
is_certified sheet i = is_list (cert_level sheet i)

-- how many levels have one
abbrev pub certified_count : Sheet → ℕ
certified_count sheet = count_by (is_certified sheet) (sheet_order sheet.tasks)

-- a number of each analysed job, added up
abbrev pub sum_over_jobs : (Bounds → ℕ) → Sheet → ℕ
sum_over_jobs number sheet = sum_by (λ i. sum_by (λ job. number (bounds_in sheet job)) (own_jobs sheet i)) (sheet_order sheet.tasks)

abbrev pub bench_text : Sheet → List ℕ
bench_text sheet =
    codes "prta bench 1\n"
    ++ size_line (length sheet.tasks) (all_jobs sheet) (entry_count sheet) (certified_count sheet)
    ++ sums_line (sum_over_jobs (λ bounds. bounds.lower) sheet) (sum_over_jobs (λ bounds. bounds.upper) sheet)
    ++ codes "end\n"
