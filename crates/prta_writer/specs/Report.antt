-- Reports: the texts that are written task by task, as the rows are found.
use Rattle.std.specs.Prelude.{ℕ, Bool, ◌&&◌, nat_eq, nat_le, List, [], ◌++◌, length, codes}
use Rattle.prta_sheet.specs.Sheet.{Sheet, hyperperiod}
use Rattle.prta_sheet.specs.Counts.{job_count, all_jobs}
use Rattle.prta_resample.specs.Resample.{largest}
use Rattle.prta_backlog.specs.Room.{room_for}
use Rattle.prta_report.specs.Text.{count_line}
use Rattle.prta_report.specs.Analysis.{analyse_rows, csv_rows, ledger_rows, analyse_text, csv_text, ledger_text}
use Rattle.prta_report.specs.Certificates.{certify_rows, certify_text}
use Rattle.prta_writer.specs.Curves.{kind_for, is_same}
use Rattle.prta_writer.specs.declared.curves.Kind.{Kind}
use Rattle.prta_writer.specs.declared.report.What.{What}
use Rattle.prta_writer.specs.declared.report.What.TheVariants.{Analyse, AnalyseCsv, Ledger, Certify}

-- what stands before the rows: the first line, and of an analysis the sheet's counts
abbrev pub head : What → Sheet → List ℕ
head Analyse sheet = codes "prta analyse 1\n" ++ count_line (hyperperiod sheet.tasks) (all_jobs sheet)
head AnalyseCsv sheet = codes "task,job,release,deadline,lower,upper\n"
head Ledger sheet = codes "prta ledger 1\n" ++ count_line (hyperperiod sheet.tasks) (all_jobs sheet)
head Certify sheet = codes "prta certificate 1\n"

-- the rows of a task
abbrev pub rows : What → Sheet → ℕ → List ℕ
rows Analyse = analyse_rows
rows AnalyseCsv = csv_rows
rows Ledger = ledger_rows
rows Certify = certify_rows

-- what stands after them: the last line; a file of records has none
abbrev pub last_line : What → List ℕ
last_line AnalyseCsv = []
last_line what = codes "end\n"

abbrev pub report_text : What → Sheet → List ℕ
report_text Analyse = analyse_text
report_text AnalyseCsv = csv_text
report_text Ledger = ledger_text
report_text Certify = certify_text

-- the room of a report: the cells of a list of chances and how it is kept, the entries of a ledger, and the jobs of one task
pub record RoomParts : Type 0 where
  pub cap : ℕ
  pub kind : Kind
  pub entries : ℕ
  pub jobs : ℕ

-- the greatest number of analysed jobs of a task
abbrev pub most_jobs : Sheet → ℕ
most_jobs sheet = largest (length sheet.tasks) (job_count sheet)

-- a room is enough for the reports of a sheet
abbrev pub fits : Sheet → RoomParts → Bool
fits sheet room = nat_eq room.cap sheet.settings.cap && (is_same room.kind (kind_for sheet) && (nat_le (room_for sheet) room.entries && nat_le (most_jobs sheet) room.jobs))
