-- What the private parts of the reader answer.
use Rattle.std.specs.Prelude.{◌≡◌, ◌≢◌, ℕ, true, false, nat_eq, if◌then◌else◌, Some, None, Result, Ok, Err, List, length}
use Rattle.prta_sheet.specs.declared.edit.Edit.{Edit}
use Rattle.prta_sheet.specs.Sheet.{Task, Sheet}
use Rattle.prta_session.specs.declared.said.Part.{Part}
use Rattle.prta_session.specs.declared.said.Said.TheVariants as said
use Rattle.prta_session.specs.declared.script.Line.{Line}
use Rattle.prta_session.specs.declared.fault.ScriptFault.{ScriptFault}
use Rattle.prta_session.specs.declared.fault.ScriptFault.TheVariants.{BadLine, BadTable, NoMemory}
use Rattle.prta_session.specs.Text.{parts}
use Rattle.prta_session.specs.Saying.{edit_from}
use Rattle.prta_session.specs.Script.{line_from, line_of, has_bad_table, said_fault, line_fault, lines_fault, lines_in}

-- the edit that a change in line n is, or that its pairs make no table
abbrev pub IsEditOf : ℕ → ℕ → Part → Result Edit ScriptFault → Type 0
IsEditOf n task part (Ok edit) = (has_bad_table part ≡ false) × (edit ≡ edit_from task part)
IsEditOf n task part (Err fault) = fault ≢ NoMemory → (has_bad_table part ≡ true) × (fault ≡ BadTable n)

-- the line of a change of a task on the sheet, or its fault
abbrev pub IsChangeMade : ℕ → Sheet → ℕ → Part → Result Line ScriptFault → Type 0
IsChangeMade n sheet task part (Ok line) = (said_fault n sheet (Some (said.Change (Some task) part)) ≡ None) × (line ≡ line_from (Some (said.Change (Some task) part)))
IsChangeMade n sheet task part (Err fault) = fault ≢ NoMemory → said_fault n sheet (Some (said.Change (Some task) part)) ≡ Some fault

-- the line that is read, or its fault
abbrev pub IsLineRead : List Task → ℕ → Sheet → List ℕ → Result Line ScriptFault → Type 0
IsLineRead tasks n sheet line (Ok read) = (line_fault tasks n sheet line ≡ None) × (read ≡ line_of tasks line)
IsLineRead tasks n sheet line (Err fault) = fault ≢ NoMemory → line_fault tasks n sheet line ≡ Some fault

-- all lines, or the first fault
abbrev pub AreLinesRead : Sheet → List ℕ → Result (List Line) ScriptFault → Type 0
AreLinesRead sheet bytes (Ok lines) = (lines_fault sheet.tasks 1 sheet (parts 10 bytes) ≡ None) × (lines ≡ lines_in sheet.tasks (parts 10 bytes))
AreLinesRead sheet bytes (Err fault) = fault ≢ NoMemory → lines_fault sheet.tasks 1 sheet (parts 10 bytes) ≡ Some fault

-- the lines, where nothing is left after the last line feed
abbrev pub at_end : List Line → ℕ → List ℕ → Result (List Line) ScriptFault
at_end lines n left = if nat_eq (length left) 0 then Ok lines else Err (BadLine n)
