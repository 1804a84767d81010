-- All lines of a script.
use Rattle.std.proofs.Common.{◌≡◌, ℕ, ◌+◌, ◌-◌, ◌<◌, ◌≤◌, false, cond, nat_eq, Option, Some, None, is_some, IfOk, Result, Ok, Err, List, [], ◌∷◌, length, count_by, refl, ap, sym, ◌∙◌, subst, arith}
use Rattle.std.proofs.lemmas.List.{length-set}
use Rattle.std.proofs.lemmas.List.Sums.{count_by-le-length, sum_by-cons}
use Rattle.std.proofs.lemmas.List.Splits.{length-slice_split}
use Rattle.prta_mass.specs.Table.{or_else, when}
use Rattle.prta_sheet.specs.Sheet.{Task, Sheet, task_at}
use Rattle.prta_sheet.specs.Edits.{task_of, edited_task, edit_fault}
use Rattle.prta_sheet.proofs.FirstOf.{first_some, past_none, first_none, next_none, when_none}
use Rattle.prta_session.specs.declared.said.Part.{Part}
use Rattle.prta_session.specs.declared.said.Part.TheVariants as part
use Rattle.prta_session.specs.declared.said.Said.{Said}
use Rattle.prta_session.specs.declared.said.Said.TheVariants as said
use Rattle.prta_session.specs.declared.script.Line.{Line}
use Rattle.prta_session.specs.declared.script.Line.TheVariants.{Print, Change}
use Rattle.prta_session.specs.declared.script.TheConstants.{SCRIPT_LIMIT}
use Rattle.prta_session.specs.declared.fault.ScriptFault.{ScriptFault}
use Rattle.prta_session.specs.declared.fault.ScriptFault.TheVariants.{BadLine, UnknownTask, BadTable, BadEdit}
use Rattle.prta_session.specs.Text.{parts}
use Rattle.prta_session.specs.Saying.{line_said, edit_from}
use Rattle.prta_session.specs.Script.{after_line, line_from, line_of, has_bad_table, said_fault, line_fault, lines_fault, lines_in, script_lines}
use Rattle.prta_session.specs.Reading.{AreLinesRead}
use Rattle.prta_session.specs.Playing.{AreAccepted, is_print, print_count}
use Rattle.prta_session.proofs.Parts.{parts_have_first}
use Rattle.prta_session.proofs.Sayings.{line_is_listed}

-- ---- a line, and what follows it

lines_fault_more : (tasks : List Task) (n : ℕ) (sheet : Sheet) (line text : List ℕ) →
    lines_fault tasks n sheet (line ∷ parts 10 text) ≡ or_else (line_fault tasks n sheet line) (lines_fault tasks (n + 1) (after_line (line_of tasks line) sheet) (parts 10 text))
lines_fault_more tasks n sheet line text =
    let first = parts_have_first 10 text in
    ap (λ pieces. lines_fault tasks n sheet (line ∷ pieces)) first.is
    ∙ sym (ap (λ pieces. or_else (line_fault tasks n sheet line) (lines_fault tasks (n + 1) (after_line (line_of tasks line) sheet) pieces)) first.is)

-- the fault of a line is that of all from it on
pub bad_line : (tasks : List Task) (n : ℕ) (sheet : Sheet) (line text : List ℕ) (fault : ScriptFault) → line_fault tasks n sheet line ≡ Some fault → lines_fault tasks n sheet (line ∷ parts 10 text) ≡ Some fault
bad_line tasks n sheet line text fault e = lines_fault_more tasks n sheet line text ∙ first_some (line_fault tasks n sheet line) _ fault e

-- where it has none the next ones decide, on the sheet as it leaves it
pub good_line_first : (tasks : List Task) (n : ℕ) (sheet : Sheet) (line text : List ℕ) → line_fault tasks n sheet line ≡ None →
    lines_fault tasks n sheet (line ∷ parts 10 text) ≡ lines_fault tasks (n + 1) (after_line (line_of tasks line) sheet) (parts 10 text)
good_line_first tasks n sheet line text e = lines_fault_more tasks n sheet line text ∙ past_none (line_fault tasks n sheet line) _ e

pub lines_in_more : (tasks : List Task) (line text : List ℕ) → lines_in tasks (line ∷ parts 10 text) ≡ line_of tasks line ∷ lines_in tasks (parts 10 text)
lines_in_more tasks line text =
    let first = parts_have_first 10 text in
    ap (λ pieces. lines_in tasks (line ∷ pieces)) first.is ∙ sym (ap (λ pieces. line_of tasks line ∷ lines_in tasks pieces) first.is)

-- ---- where there is no fault, each edit is accepted

edit_from_task : (task : ℕ) (p : Part) → task_of (edit_from task p) ≡ task
edit_from_task task (part.Table index pairs) = refl
edit_from_task task (part.Deadline value) = refl
edit_from_task task (part.Allow p q) = refl

is_none : {X : Type 0} (o : Option X) → is_some o ≡ false → o ≡ None
is_none None e = refl
is_none (Some x) e = cc

module _ (tasks : List Task) where
  -- of a line without a fault, on a sheet of as many tasks
  good_line : (n : ℕ) (sheet : Sheet) (what : Option Said) (rest : List Line) → length sheet.tasks ≡ length tasks →
      ((task : ℕ) (p : Part) → what ≡ Some (said.Change (Some task) p) → task < length tasks) → said_fault n sheet what ≡ None →
      AreAccepted (after_line (line_from what) sheet) rest → AreAccepted sheet (line_from what ∷ rest)
  good_line n sheet None rest same listed none later = absurd (let bad : Some (BadLine n) ≡ None = none in cc)
  good_line n sheet (Some said.Print) rest same listed none later = later
  good_line n sheet (Some (said.Change None p)) rest same listed none later = absurd (let bad : Some (UnknownTask n) ≡ None = none in cc)
  good_line n sheet (Some (said.Change (Some task) p)) rest same listed none later =
      let low : task < length tasks = listed task p refl in
      let refused = when_none (is_some (edit_fault (edit_from task p) sheet)) (BadEdit n) (next_none (when (has_bad_table p) (BadTable n)) _ none) in
      (record { listed = omega (arith, edit_from_task task p); accepted = is_none (edit_fault (edit_from task p) sheet) refused }, later)

  pub after_same : (line : Line) (sheet : Sheet) → length (after_line line sheet).tasks ≡ length sheet.tasks
  after_same Print sheet = refl
  after_same (Change e) sheet = length-set sheet.tasks (task_of e) (edited_task e (task_at sheet.tasks (task_of e)))

  good_lines : (n : ℕ) (sheet : Sheet) (pieces : List (List ℕ)) → length sheet.tasks ≡ length tasks → lines_fault tasks n sheet pieces ≡ None → AreAccepted sheet (lines_in tasks pieces)
  good_lines n sheet [] same none = tt
  good_lines n sheet (last ∷ []) same none = tt
  good_lines n sheet (line ∷ next ∷ rest) same none =
      let after : Sheet = after_line (line_of tasks line) sheet in
      good_line n sheet (line_said tasks line) (lines_in tasks (next ∷ rest)) same (λ task p e. line_is_listed tasks line task p e)
      (first_none (line_fault tasks n sheet line) _ none)
      (good_lines (n + 1) after (next ∷ rest) (after_same (line_of tasks line) sheet ∙ same) (next_none (line_fault tasks n sheet line) _ none))

-- ---- there are no more lines than bytes

few_prints : (lines : List Line) → print_count lines ≤ length lines
few_prints [] = omega arith
few_prints (Print ∷ lines) = let rest = few_prints lines in omega arith
few_prints (Change e ∷ lines) = let rest = few_prints lines in omega arith

-- prints, as code counts them
pub print_count_is : (lines : List Line) → count_by is_print lines ≡ print_count lines
print_count_is [] = refl
print_count_is (Print ∷ lines) = let rest = print_count_is lines in omega (arith, sum_by-cons (λ (line : Line). cond (is_print line) 1 0) Print lines)
print_count_is (Change e ∷ lines) = let rest = print_count_is lines in omega (arith, sum_by-cons (λ (line : Line). cond (is_print line) 1 0) (Change e) lines)

few_lines : (tasks : List Task) (pieces : List (List ℕ)) → length (lines_in tasks pieces) ≤ length pieces - 1
few_lines tasks [] = omega arith
few_lines tasks (last ∷ []) = omega arith
few_lines tasks (line ∷ next ∷ rest) = let more = few_lines tasks (next ∷ rest) in omega arith

lines_low : (sheet : Sheet) (bytes : List ℕ) → length bytes ≤ SCRIPT_LIMIT → print_count (script_lines sheet bytes) ≤ SCRIPT_LIMIT
lines_low sheet bytes short =
    omega (
      arith,
      short,
      few_prints (script_lines sheet bytes),
      few_lines sheet.tasks (parts 10 bytes),
      length-slice_split (λ b. nat_eq b 10) bytes,
      count_by-le-length (λ b. nat_eq b 10) bytes,
    )

-- ---- what an answer of the reader tells

pub accepted_answer : (sheet : Sheet) (bytes : List ℕ) (r : Result (List Line) ScriptFault) → AreLinesRead sheet bytes r → IfOk r (AreAccepted sheet)
accepted_answer sheet bytes (Ok lines) is = subst (AreAccepted sheet) (sym is.1) (good_lines sheet.tasks 1 sheet (parts 10 bytes) refl is.0)
accepted_answer sheet bytes (Err fault) is = tt

pub prints_answer : (sheet : Sheet) (bytes : List ℕ) (r : Result (List Line) ScriptFault) → length bytes ≤ SCRIPT_LIMIT → AreLinesRead sheet bytes r → IfOk r (λ lines. print_count lines ≤ SCRIPT_LIMIT)
prints_answer sheet bytes (Ok lines) short is = subst (λ lines. print_count lines ≤ SCRIPT_LIMIT) (sym is.1) (lines_low sheet bytes short)
prints_answer sheet bytes (Err fault) short is = tt
