-- The rows of a task: a line for each of its analysed jobs, of one kind.
use Rattle.std.specs.Prelude.{◌≡◌, ℕ, List, flat_map, ⊤}
use Rattle.prta_sheet.specs.Sheet.{Sheet}
use Rattle.prta_sheet.specs.Job.{Job}
use Rattle.prta_backlog.specs.Level.{sheet_level}
use Rattle.prta_backlog.specs.Room.{own_jobs}
use Rattle.prta_dual.specs.Entries.{entries}
use Rattle.prta_report.specs.Text.{line_of_job, record_of_job, line_of_gap}
use Rattle.prta_report.specs.Analysis.{bounds_in, sum_in}
use Rattle.prta_writer.specs.declared.rows.JobLine.{JobLine}
use Rattle.prta_writer.specs.declared.rows.JobLine.TheVariants.{Numbers, Record, Gap}

-- the line of a job: its two numbers, these as a record, or with what its entries add up to
abbrev pub line_at : JobLine → Sheet → Job → List ℕ
line_at Numbers sheet job = line_of_job sheet.tasks job (bounds_in sheet job)
line_at Record sheet job = record_of_job sheet.tasks job (bounds_in sheet job)
line_at (Gap ledger) sheet job = line_of_gap sheet.tasks job (bounds_in sheet job) (sum_in sheet job)

abbrev pub job_rows : JobLine → Sheet → ℕ → List ℕ
job_rows line sheet i = flat_map (line_at line sheet) (own_jobs sheet i)

-- the ledger that a line tells of has just the task's entries
abbrev pub HasEntries : JobLine → Sheet → ℕ → Type 0
HasEntries Numbers sheet i = ⊤
HasEntries Record sheet i = ⊤
HasEntries (Gap ledger) sheet i = ledger.now.entries ≡ entries sheet (sheet_level i)
