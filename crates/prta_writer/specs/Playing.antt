-- The text of a session: for each print the text of `analyse` of the sheet as the edits before it leave it.
use Rattle.std.specs.Prelude.{ℕ, List, [], ◌∷◌, flat_map, ⊤}
use Rattle.prta_sheet.specs.Sheet.{Sheet}
use Rattle.prta_sheet.specs.Edits.{edited}
use Rattle.prta_session.specs.declared.script.Line.{Line}
use Rattle.prta_session.specs.declared.script.Line.TheVariants.{Print, Change}
use Rattle.prta_session.specs.State.{SessionState, session_edited, refreshed, stale_tasks}
use Rattle.prta_session.specs.Playing.{IsGoodEdit, sheets_printed}
use Rattle.prta_report.specs.Analysis.{analyse_text}
use Rattle.prta_writer.specs.Meaning.{AreAround}

abbrev pub session_text : Sheet → List Line → List ℕ
session_text sheet lines = flat_map analyse_text (sheets_printed sheet lines)

-- the two numbers of each analysed job are around its exact chance, for the sheet at each print
abbrev pub AreAroundAtPrints : Sheet → List Line → Type 0
AreAroundAtPrints sheet [] = ⊤
AreAroundAtPrints sheet (Print ∷ lines) = AreAround sheet × AreAroundAtPrints sheet lines
AreAroundAtPrints sheet (Change edit ∷ lines) = AreAroundAtPrints (edited edit sheet) lines

-- ---- a line of a script

-- the edit of a line, if it is one, is accepted on the sheet
abbrev pub IsGoodLine : Line → Sheet → Type 0
IsGoodLine Print sheet = ⊤
IsGoodLine (Change edit) sheet = IsGoodEdit edit sheet

-- the session after a line, the text that it adds, and the tasks that it has analysed
abbrev pub session_after : Line → SessionState → SessionState
session_after Print session = refreshed session
session_after (Change edit) session = session_edited edit session

abbrev pub session_played : List Line → SessionState → SessionState
session_played [] session = session
session_played (line ∷ lines) session = session_played lines (session_after line session)

abbrev pub text_of : Line → SessionState → List ℕ
text_of Print session = analyse_text session.sheet
text_of (Change edit) session = []

abbrev pub tasks_of : Line → SessionState → List ℕ
tasks_of Print session = stale_tasks session
tasks_of (Change edit) session = []

-- what a line shows of the sheet
abbrev pub ShownBy : Line → Sheet → Type 0
ShownBy Print sheet = AreAround sheet
ShownBy (Change edit) sheet = ⊤
