-- What the lines of a script are to a sheet and to a session, line by line.
use Rattle.std.specs.Prelude.{◌≡◌, ℕ, ◌+◌, ◌<◌, Bool, true, false, None, List, [], ◌∷◌, ◌++◌, length}
use Rattle.prta_sheet.specs.declared.edit.Edit.{Edit}
use Rattle.prta_sheet.specs.Sheet.{Sheet}
use Rattle.prta_sheet.specs.Edits.{task_of, edited, edit_fault}
use Rattle.prta_session.specs.declared.script.Line.{Line}
use Rattle.prta_session.specs.declared.script.Line.TheVariants.{Print, Change}
use Rattle.prta_session.specs.State.{SessionState, session_edited, refreshed, stale_tasks}

-- an edit of a task of the sheet that the sheet doesn't refuse
pub record IsGoodEdit (edit : Edit) (sheet : Sheet) : Type 0 where
  pub listed : task_of edit < length sheet.tasks
  pub accepted : edit_fault edit sheet ≡ None

-- each edit of the lines is one on the sheet as the lines before it leave it
abbrev pub AreAccepted : Sheet → List Line → Type 0
AreAccepted sheet [] = Unit {0}
AreAccepted sheet (Print ∷ lines) = AreAccepted sheet lines
AreAccepted sheet (Change edit ∷ lines) = IsGoodEdit edit sheet × AreAccepted (edited edit sheet) lines

-- the sheet at each print, after the edits before it
abbrev pub sheets_printed : Sheet → List Line → List Sheet
sheets_printed sheet [] = []
sheets_printed sheet (Print ∷ lines) = sheet ∷ sheets_printed sheet lines
sheets_printed sheet (Change edit ∷ lines) = sheets_printed (edited edit sheet) lines

abbrev pub is_print : Line → Bool
is_print Print = true
is_print (Change edit) = false

-- how many prints there are
abbrev pub print_count : List Line → ℕ
print_count [] = 0
print_count (Print ∷ lines) = 1 + print_count lines
print_count (Change edit ∷ lines) = print_count lines

-- the tasks that are stale at each print, print after print, where each print refreshes the session
abbrev pub tasks_analysed : SessionState → List Line → List ℕ
tasks_analysed session [] = []
tasks_analysed session (Print ∷ lines) = stale_tasks session ++ tasks_analysed (refreshed session) lines
tasks_analysed session (Change edit ∷ lines) = tasks_analysed (session_edited edit session) lines
