-- What the program answers to words, where a shelf tells its files.
use Rattle.std.specs.Prelude.{◌≡◌, ℕ, Bool, not, Option, Some, None, is_some, IsSomeAnd, option_and_then, List, [], codes, if◌then◌else◌}
use Rattle.std.specs.Option.{option_map_or}
use Rattle.prta_sheet.specs.Sheet.{Sheet}
use Rattle.prta_sheet.specs.declared.fault.SheetFault.{SheetFault}
use Rattle.prta_sheet.specs.Stated.{sheet_stated}
use Rattle.prta_sheet.specs.Refusal.{refusal}
use Rattle.prta_certfile.specs.declared.level.CertLevel.{CertLevel}
use Rattle.prta_certfile.specs.Reading.{fault_of, levels_of}
use Rattle.prta_sheet.specs.Canonical.{canonical_text}
use Rattle.prta_dual.specs.Failing.{failing_job}
use Rattle.prta_report.specs.Analysis.{analyse_text, csv_text, ledger_text, check_text, bench_text}
use Rattle.prta_report.specs.Certificates.{certify_text, verify_text, broken_task}
use Rattle.prta_report.specs.Tails.{tail_text}
use Rattle.prta_report.specs.Assignment.{assign_text}
use Rattle.prta_report.specs.Slacks.{slack_text}
use Rattle.prta_audsley.specs.Verdict.{verdict}
use Rattle.prta_session.specs.declared.script.Line.{Line}
use Rattle.prta_session.specs.Script.{script_fault, script_lines}
use Rattle.prta_writer.specs.Assigning.{is_found}
use Rattle.prta_writer.specs.Playing.{session_text}
use Rattle.prta_cli.specs.declared.status.Status.{Status}
use Rattle.prta_cli.specs.declared.status.Status.TheVariants.{Done, No, Usage, SheetRefused, InputRefused, ReadFault, WriteFault, NoMemory}
use Rattle.prta_cli.specs.declared.input.InputFault.{InputFault}
use Rattle.prta_cli.specs.declared.input.InputFault.TheVariants.{Times, Certificate, Counts, Script}
use Rattle.prta_cli.specs.declared.words.SheetCommand.{SheetCommand}
use Rattle.prta_cli.specs.declared.words.SheetCommand.TheVariants.{Analyse, AnalyseCsv, Ledger, Check, Certify, Tail, Assign, Slack}
use Rattle.prta_cli.specs.declared.words.FilesCommand.{FilesCommand}
use Rattle.prta_cli.specs.declared.words.FilesCommand.TheVariants.{Verify, Simulate, Session, Import}
use Rattle.prta_cli.specs.declared.words.SeedCommand.{SeedCommand}
use Rattle.prta_cli.specs.declared.words.SeedCommand.TheVariants.{Generate, Bench}
use Rattle.prta_cli.specs.Words.{Command, of_sheet, of_files, of_seed, command}
use Rattle.prta_gen.specs.Generator.{generated}
use Rattle.prta_times.specs.declared.fault.CountsFault.{CountsFault}
use Rattle.prta_times.specs.Counts.{counts_fault, sheet_with, reduced_fault, reduced_sheet}
use Rattle.prta_cli.specs.declared.words.Kept.{Kept}
use Rattle.prta_cli.specs.declared.words.Kept.TheVariants.{AllTimes, AtMost}
use Rattle.prta_cli.specs.Times.{times_in, times_fault}
use Rattle.prta_report.specs.Trace.{simulate_text}
use Rattle.prta_cli.specs.Refused.{refused_line, input_line}

-- a status, the text for out and the line for err
pub record Answer : Type 0 where
  pub status : Status
  pub out : List ℕ
  pub err : List ℕ

-- the line on err by the status alone; Done and No have none, and that of a refused file tells more
abbrev pub err_line : Status → List ℕ
err_line Done = []
err_line No = []
err_line Usage = codes "prta: usage\n"
err_line SheetRefused = []
err_line InputRefused = []
err_line ReadFault = codes "prta: read fault\n"
err_line WriteFault = codes "prta: write fault\n"
err_line NoMemory = codes "prta: no memory\n"

-- the answers with a text, and those without one
abbrev pub told : List ℕ → Answer
told text = record { status = Done; out = text; err = [] }

abbrev pub told_no : List ℕ → Answer
told_no text = record { status = No; out = text; err = [] }

-- that of a text which says no where something fails, and else yes
abbrev pub judged : Bool → List ℕ → Answer
judged failed text = if failed then told_no text else told text

abbrev pub plain : Status → Answer
plain status = record { status = status; out = []; err = err_line status }

abbrev pub refused : SheetFault → Answer
refused fault = record { status = SheetRefused; out = []; err = refused_line fault }

abbrev pub input_refused : InputFault → Answer
input_refused fault = record { status = InputRefused; out = []; err = input_line fault }

-- to `check`, by the accepted sheet: no, where there is a job whose upper number doesn't pass
abbrev pub checking : Sheet → Answer
checking sheet = judged (is_some (failing_job sheet)) (check_text sheet)

-- to `assign`: no, where no order is found
abbrev pub assigning : Sheet → Answer
assigning sheet = judged (not (is_found (verdict sheet))) (assign_text sheet)

-- to `slack`: no, where the sheet doesn't pass as it is
abbrev pub slacking : Sheet → Answer
slacking sheet = judged (is_some (failing_job sheet)) (slack_text sheet)

-- to `simulate`, by the accepted sheet and by what is held under the name of the times
abbrev pub simulation : Sheet → Option (List ℕ) → Answer
simulation sheet None = plain ReadFault
simulation sheet (Some bytes) = option_map_or (λ fault. input_refused (Times fault)) (times_fault sheet bytes) (told (simulate_text sheet (times_in bytes)))

-- to `verify`, by the accepted sheet and the levels that a certificate states: no, where some list is broken
abbrev pub judgement : Sheet → List CertLevel → Answer
judgement sheet levels = judged (is_some (broken_task sheet levels)) (verify_text sheet levels)

-- by what is held under the name of the certificate
abbrev pub verification : Sheet → Option (List ℕ) → Answer
verification sheet None = plain ReadFault
verification sheet (Some bytes) = option_map_or (λ fault. input_refused (Certificate fault)) (fault_of sheet.tasks sheet.settings.cap bytes) (judgement sheet (levels_of sheet.tasks bytes))

-- why counts make no sheet, and the sheet that they make: a table keeps all its times, or is reduced to at most so many
abbrev pub kept_fault : Kept → Sheet → List ℕ → Option CountsFault
kept_fault AllTimes sheet bytes = counts_fault sheet bytes
kept_fault (AtMost k) sheet bytes = reduced_fault k sheet bytes

abbrev pub sheet_keeping : Kept → Sheet → List ℕ → Sheet
sheet_keeping AllTimes sheet bytes = sheet_with sheet bytes
sheet_keeping (AtMost k) sheet bytes = reduced_sheet k sheet bytes

-- to `import` and `reduce`: the text of the sheet with the tables that are made of the counts that are held under their name
abbrev pub counting : Kept → Sheet → Option (List ℕ) → Answer
counting kept sheet None = plain ReadFault
counting kept sheet (Some bytes) = option_map_or (λ fault. input_refused (Counts fault)) (kept_fault kept sheet bytes) (told (canonical_text (sheet_keeping kept sheet bytes)))

-- to `session`, by the accepted sheet and by what is held under the name of the script
abbrev pub playing : Sheet → Option (List ℕ) → Answer
playing sheet None = plain ReadFault
playing sheet (Some bytes) = option_map_or (λ fault. input_refused (Script fault)) (script_fault sheet bytes) (told (session_text sheet (script_lines sheet bytes)))

-- the names of files, and the bytes under them
abbrev pub Files : Type 0
Files = List ℕ → Option (List ℕ)

-- to what is asked of an accepted sheet, and of one with what is held under the second name
abbrev pub answer_to_sheet : SheetCommand → Sheet → Answer
answer_to_sheet Analyse sheet = told (analyse_text sheet)
answer_to_sheet AnalyseCsv sheet = told (csv_text sheet)
answer_to_sheet Ledger sheet = told (ledger_text sheet)
answer_to_sheet Check sheet = checking sheet
answer_to_sheet Certify sheet = told (certify_text sheet)
answer_to_sheet Tail sheet = told (tail_text sheet)
answer_to_sheet Assign sheet = assigning sheet
answer_to_sheet Slack sheet = slacking sheet

abbrev pub answer_to_files : FilesCommand → Sheet → Option (List ℕ) → Answer
answer_to_files Verify sheet held = verification sheet held
answer_to_files Simulate sheet held = simulation sheet held
answer_to_files Session sheet held = playing sheet held
answer_to_files (Import kept) sheet held = counting kept sheet held

-- to what is asked of a generated sheet
abbrev pub answer_to_seed : SeedCommand → Sheet → Answer
answer_to_seed Generate sheet = told (canonical_text sheet)
answer_to_seed Bench sheet = told (bench_text sheet)

-- by the first condition that fails on a sheet, and by the sheet that is stated; bytes that no condition refuses state one, so that the
-- answer where there is none doesn't come
abbrev pub answer_by : (Sheet → Answer) → Option SheetFault → Option Sheet → Answer
answer_by answers (Some fault) sheet = refused fault
answer_by answers None sheet = option_map_or answers sheet (plain ReadFault)

abbrev pub answer_to_file : (Sheet → Answer) → Option (List ℕ) → Answer
answer_to_file answers None = plain ReadFault
answer_to_file answers (Some bytes) = answer_by answers (refusal bytes) (sheet_stated bytes)

-- the answer to a command, and to words
abbrev pub answer_to : Files → Command → Answer
answer_to files (of_sheet name asked) = answer_to_file (answer_to_sheet asked) (files name)
answer_to files (of_files name second asked) = answer_to_file (λ sheet. answer_to_files asked sheet (files second)) (files name)
answer_to files (of_seed seed tasks asked) = answer_to_seed asked (generated seed tasks)

abbrev pub answer : Files → List (List ℕ) → Answer
answer files words = option_map_or (answer_to files) (command words) (plain Usage)

-- no condition refuses the bytes that are held, and they state the sheet
abbrev pub IsSheetOf : Option (List ℕ) → Sheet → Type 0
IsSheetOf held sheet = IsSomeAnd held (λ bytes. (refusal bytes ≡ None) × (sheet_stated bytes ≡ Some sheet))

-- no condition refuses the bytes that are held as a certificate of the sheet, and they state the levels
abbrev pub IsCertificateOf : Sheet → Option (List ℕ) → List CertLevel → Type 0
IsCertificateOf sheet held levels = IsSomeAnd held (λ bytes. (fault_of sheet.tasks sheet.settings.cap bytes ≡ None) × (levels ≡ levels_of sheet.tasks bytes))

-- no condition refuses the bytes that are held as counts for the sheet, and they make the other one
abbrev pub IsSheetWith : Kept → Sheet → Option (List ℕ) → Sheet → Type 0
IsSheetWith kept sheet held made = IsSomeAnd held (λ bytes. (kept_fault kept sheet bytes ≡ None) × (made ≡ sheet_keeping kept sheet bytes))

-- no condition refuses the bytes that are held as a script for the sheet, and these are its lines
abbrev pub IsScriptOf : Sheet → Option (List ℕ) → List Line → Type 0
IsScriptOf sheet held lines = IsSomeAnd held (λ bytes. (script_fault sheet bytes ≡ None) × (lines ≡ script_lines sheet bytes))

-- no condition refuses the bytes as a sheet
abbrev pub IsAcceptedFile : Option (List ℕ) → Type 0
IsAcceptedFile held = IsSomeAnd held (λ bytes. refusal bytes ≡ None)

-- the sheet that is stated under a name
abbrev pub sheet_under : Files → List ℕ → Option Sheet
sheet_under files name = option_and_then sheet_stated (files name)

abbrev pub status_number : Status → ℕ
status_number Done = 0
status_number No = 1
status_number Usage = 2
status_number SheetRefused = 3
status_number InputRefused = 4
status_number ReadFault = 5
status_number WriteFault = 6
status_number NoMemory = 7
