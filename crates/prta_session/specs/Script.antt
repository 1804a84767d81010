-- How bytes are read as a script for a sheet: its lines, and the first fault.
use Rattle.std.specs.Prelude.{◌≡◌, ◌≢◌, ℕ, ◌+◌, Bool, false, not, nat_eq, nat_lt, Option, Some, None, is_some, unwrap_or, Result, Ok, Err, List, [], ◌∷◌, length}
use Rattle.prta_mass.specs.Table.{or_else, when, fault_of}
use Rattle.prta_sheet.specs.Sheet.{Task, Sheet}
use Rattle.prta_sheet.specs.Edits.{edited, edit_fault}
use Rattle.prta_session.specs.declared.said.Part.{Part}
use Rattle.prta_session.specs.declared.said.Part.TheVariants.{Table, Deadline, Allow}
use Rattle.prta_session.specs.declared.said.Said.{Said}
use Rattle.prta_session.specs.declared.said.Said.TheVariants as said
use Rattle.prta_session.specs.declared.script.Line.{Line}
use Rattle.prta_session.specs.declared.script.Line.TheVariants.{Print, Change}
use Rattle.prta_session.specs.declared.script.TheConstants.{SCRIPT_LIMIT}
use Rattle.prta_session.specs.declared.fault.ScriptFault.{ScriptFault}
use Rattle.prta_session.specs.declared.fault.ScriptFault.TheVariants.{TooLong, BadLine, UnknownTask, BadTable, BadEdit, NoMemory}
use Rattle.prta_session.specs.Text.{parts}
use Rattle.prta_session.specs.Saying.{line_said, edit_from}

-- ---- a line

-- a line makes its edit, if it has one
abbrev pub after_line : Line → Sheet → Sheet
after_line Print sheet = sheet
after_line (Change edit) sheet = edited edit sheet

-- the line that is said, of a task on the sheet
abbrev pub line_from : Option Said → Line
line_from None = Print
line_from (Some said.Print) = Print
line_from (Some (said.Change task part)) = Change (edit_from (unwrap_or task 0) part)

abbrev pub line_of : List Task → List ℕ → Line
line_of tasks line = line_from (line_said tasks line)

-- the pairs make no table
abbrev pub has_bad_table : Part → Bool
has_bad_table (Table index pairs) = is_some (fault_of pairs)
has_bad_table (Deadline value) = false
has_bad_table (Allow p q) = false

-- the first test of what line n says that fails, on the sheet as the lines before leave it: it is of a form, its task is on the sheet,
-- its pairs make a table, and the edit is not refused
abbrev pub said_fault : ℕ → Sheet → Option Said → Option ScriptFault
said_fault n sheet None = Some (BadLine n)
said_fault n sheet (Some said.Print) = None
said_fault n sheet (Some (said.Change None part)) = Some (UnknownTask n)
said_fault n sheet (Some (said.Change (Some task) part)) =
    or_else (when (has_bad_table part) (BadTable n)) (when (is_some (edit_fault (edit_from task part) sheet)) (BadEdit n))

abbrev pub line_fault : List Task → ℕ → Sheet → List ℕ → Option ScriptFault
line_fault tasks n sheet line = said_fault n sheet (line_said tasks line)

-- ---- all lines

-- the first fault from line n on, by the parts between line feeds: each but the last is a line, and after the last line feed stands nothing
abbrev pub lines_fault : List Task → ℕ → Sheet → List (List ℕ) → Option ScriptFault
lines_fault tasks n sheet [] = None
lines_fault tasks n sheet (last ∷ []) = when (not (nat_eq (length last) 0)) (BadLine n)
lines_fault tasks n sheet (line ∷ next ∷ rest) =
    or_else (line_fault tasks n sheet line) (lines_fault tasks (n + 1) (after_line (line_of tasks line) sheet) (next ∷ rest))

-- the lines, where there is no fault
abbrev pub lines_in : List Task → List (List ℕ) → List Line
lines_in tasks [] = []
lines_in tasks (last ∷ []) = []
lines_in tasks (line ∷ next ∷ rest) = line_of tasks line ∷ lines_in tasks (next ∷ rest)

-- the first fault of bytes as a script for a sheet; None where they are one
abbrev pub script_fault : Sheet → List ℕ → Option ScriptFault
script_fault sheet bytes = or_else (when (nat_lt SCRIPT_LIMIT (length bytes)) TooLong) (lines_fault sheet.tasks 1 sheet (parts 10 bytes))

-- its lines then
abbrev pub script_lines : Sheet → List ℕ → List Line
script_lines sheet bytes = lines_in sheet.tasks (parts 10 bytes)

-- the lines where there is no fault, and else the first fault; want of memory is free
abbrev pub IsReading : Sheet → List ℕ → Result (List Line) ScriptFault → Type 0
IsReading sheet bytes (Ok lines) = (script_fault sheet bytes ≡ None) × (lines ≡ script_lines sheet bytes)
IsReading sheet bytes (Err fault) = fault ≢ NoMemory → script_fault sheet bytes ≡ Some fault

-- the number of a fault; 0 for want of memory
abbrev pub number_of : ScriptFault → ℕ
number_of TooLong = 1
number_of (BadLine n) = 2
number_of (UnknownTask n) = 3
number_of (BadTable n) = 4
number_of (BadEdit n) = 5
number_of NoMemory = 0

-- the limit as a number
pub record StatedLimit : Type 0 where
  pub bytes : SCRIPT_LIMIT ≡ 1048576
