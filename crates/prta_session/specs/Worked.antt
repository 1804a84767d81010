-- Worked scripts and sessions of a sheet of two tasks.
use Rattle.std.specs.Prelude.{◌≡◌, ℕ, Option, Some, None, List, [], ◌∷◌, codes}
use Rattle.prta_sheet.specs.declared.edit.Edit.TheVariants as edit
use Rattle.prta_sheet.specs.Sheet.{Sheet}
use Rattle.prta_sheet.specs.WorkedEdits.{pair, two}
use Rattle.prta_backlog.specs.Level.{sheet_level}
use Rattle.prta_dual.specs.Numbers.{all_bounds}
use Rattle.prta_dual.specs.Worked.{bounds}
use Rattle.prta_session.specs.declared.script.Line.{Line}
use Rattle.prta_session.specs.declared.script.Line.TheVariants.{Print, Change}
use Rattle.prta_session.specs.declared.fault.ScriptFault.{ScriptFault}
use Rattle.prta_session.specs.declared.fault.ScriptFault.TheVariants.{BadLine, UnknownTask, BadTable, BadEdit}
use Rattle.prta_session.specs.Script.{script_fault, script_lines}
use Rattle.prta_session.specs.State.{session_of}
use Rattle.prta_session.specs.Playing.{sheets_printed, tasks_analysed}

-- A of period 4 above B of period 8 and deadline 7, each with two times
abbrev pub start : Sheet
start = pair 7 two

abbrev pub text : List ℕ
text = codes "print\ndeadline B 8\nprint\ntable B 0 5:1\nprint\n"

abbrev pub lines : List Line
lines = Print ∷ Change (edit.Deadline 1 8) ∷ Print ∷ Change (edit.Table 1 0 ((5, 1) ∷ [])) ∷ Print ∷ []

abbrev pub fault : List ℕ → Option ScriptFault
fault bytes = script_fault start bytes

pub record WorkedScripts : Type 0 where
  pub faultless : fault text ≡ None
  pub read : script_lines start text ≡ lines
  pub allowance : script_lines start (codes "allow A 1 4\n") ≡ Change (edit.Allow 0 1 4) ∷ []
  pub two_pairs : script_lines start (codes "table B 0 2:1 4:3\n") ≡ Change (edit.Table 1 0 ((2, 1) ∷ (4, 3) ∷ [])) ∷ []
  -- no bytes are no lines
  pub empty : fault [] ≡ None
  pub no_lines : script_lines start [] ≡ []
  pub empty_line : fault (codes "print\n\n") ≡ Some (BadLine 2)
  pub no_line_feed : fault (codes "print\nprint") ≡ Some (BadLine 2)
  pub other_word : fault (codes "prints\n") ≡ Some (BadLine 1)
  pub no_deadline : fault (codes "deadline B\n") ≡ Some (BadLine 1)
  pub two_spaces : fault (codes "deadline B  8\n") ≡ Some (BadLine 1)
  pub leading_zero : fault (codes "deadline B 08\n") ≡ Some (BadLine 1)
  pub more_words : fault (codes "deadline B 8 8\n") ≡ Some (BadLine 1)
  pub great_number : fault (codes "deadline B 4294967296\n") ≡ Some (BadLine 1)
  pub no_pairs : fault (codes "table A 0\n") ≡ Some (BadLine 1)
  pub no_weight : fault (codes "table A 0 2\n") ≡ Some (BadLine 1)
  pub two_weights : fault (codes "table A 0 2:1:1\n") ≡ Some (BadLine 1)
  -- what is no good name is no form, and comes before a name that no task has
  pub bad_name : fault (codes "deadline B! 8\n") ≡ Some (BadLine 1)
  pub unknown : fault (codes "deadline C 3\n") ≡ Some (UnknownTask 1)
  pub unknown_before_table : fault (codes "table C 0 2:1 1:1\n") ≡ Some (UnknownTask 1)
  pub falling_times : fault (codes "table A 0 2:1 1:1\n") ≡ Some (BadTable 1)
  pub table_before_index : fault (codes "table A 1 2:0\n") ≡ Some (BadTable 1)
  pub no_such_table : fault (codes "table A 1 2:1\n") ≡ Some (BadEdit 1)
  pub great_deadline : fault (codes "print\ndeadline B 2047\n") ≡ Some (BadEdit 2)
  -- the first faulty line decides
  pub first_line : fault (codes "deadline C 3\nx\n") ≡ Some (UnknownTask 1)

-- with fewer cells: the same numbers
abbrev pub few_cells : Sheet → Sheet
few_cells sheet = record sheet { settings = record sheet.settings { cap = 12 } }

pub record WorkedSessions : Type 0 where
  pub printed : sheets_printed start lines ≡ start ∷ pair 8 two ∷ pair 8 ((5, 1) ∷ []) ∷ []
  -- both tasks at the first print; then the second alone
  pub analysed : tasks_analysed (session_of start) lines ≡ 0 ∷ 1 ∷ 1 ∷ 1 ∷ []
  -- a table of the first makes both stale, a deadline of the first itself alone, and an allowance none
  pub first_table : tasks_analysed (session_of start) (Print ∷ Change (edit.Table 0 0 ((2, 1) ∷ [])) ∷ Print ∷ []) ≡ 0 ∷ 1 ∷ 0 ∷ 1 ∷ []
  pub first_deadline : tasks_analysed (session_of start) (Print ∷ Change (edit.Deadline 0 3) ∷ Print ∷ []) ≡ 0 ∷ 1 ∷ 0 ∷ []
  pub an_allowance : tasks_analysed (session_of start) (Print ∷ Change (edit.Allow 1 1 4) ∷ Print ∷ []) ≡ 0 ∷ 1 ∷ []
  pub no_edit : tasks_analysed (session_of start) (Print ∷ Print ∷ []) ≡ 0 ∷ 1 ∷ []
  -- the numbers of the second at each print
  pub at_first : all_bounds (few_cells start) (sheet_level 1) ≡ bounds 144115188075855872 144115188075855872 ∷ []
  pub at_second : all_bounds (few_cells (pair 8 two)) (sheet_level 1) ≡ bounds 0 0 ∷ []
  pub at_third : all_bounds (few_cells (pair 8 ((5, 1) ∷ []))) (sheet_level 1) ≡ bounds 288230376151711744 288230376151711744 ∷ []
