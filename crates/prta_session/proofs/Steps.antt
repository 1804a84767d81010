-- Scripts go by lines.
use Rattle.std.proofs.Common.{◌≡◌, ℕ, ◌≤◌, true, false, not, List, [], ◌∷◌, length, refl, arith}
use Rattle.std.specs.List.{range_with_len}
use Rattle.std.proofs.lemmas.List.{length-set}
use Rattle.std.proofs.lemmas.List.Sums.{length-filter, count_by-le-length}
use Rattle.std.proofs.lemmas.List.FromFn.{length-range_with_len, get_or-map-range_with_len}
use Rattle.prta_sheet.specs.Sheet.{Sheet, task_at}
use Rattle.prta_sheet.specs.Edits.{task_of, edited_task, edited}
use Rattle.prta_session.specs.declared.script.Line.{Line}
use Rattle.prta_session.specs.declared.script.Line.TheVariants.{Print, Change}
use Rattle.prta_session.specs.State.{SessionState, is_fresh, stale_tasks}
use Rattle.prta_session.specs.Playing.{sheets_printed, print_count}
use Rattle.prta_session.specs.Laws.{ScriptsGoByLines}

stale_few : (session : SessionState) → length (stale_tasks session) ≤ length session.sheet.tasks
stale_few session =
    let tasks : List ℕ = range_with_len 0 (length session.sheet.tasks) in
    omega (arith, length-filter (λ (task : ℕ). not (is_fresh session task)) tasks, count_by-le-length (λ (task : ℕ). not (is_fresh session task)) tasks, length-range_with_len 0 (length session.sheet.tasks))

sheet_for_each : (sheet : Sheet) (lines : List Line) → length (sheets_printed sheet lines) ≡ print_count lines
sheet_for_each sheet [] = refl
sheet_for_each sheet (Print ∷ lines) = let rest = sheet_for_each sheet lines in omega arith
sheet_for_each sheet (Change edit ∷ lines) = sheet_for_each (edited edit sheet) lines

pub scripts_go_by_lines : ScriptsGoByLines
scripts_go_by_lines = record {
  tasks = λ e sheet. length-set sheet.tasks (task_of e) (edited_task e (task_at sheet.tasks (task_of e)));
  few = stale_few;
  fresh = λ session task low. get_or-map-range_with_len (λ (task : ℕ). true) 0 (length session.sheet.tasks) task task false low (omega arith);
  prints = sheet_for_each;
}
