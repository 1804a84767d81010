use Rattle.std.proofs.Common.{◌≡◌, ◌+◌, ◌<◌, ◌∷◌, ◌++◌, List, ℕ, length, append_assoc, ap, sym, ◌∙◌, arith}
use Rattle.std.proofs.lemmas.Result.{err_from_is_err_and}
use Rattle.prta_sheet.specs.Sheet.{Task, Sheet}
use Rattle.prta_session.specs.declared.script.Line.{Line}
use Rattle.prta_session.specs.Text.{parts, parts_left}
use Rattle.prta_session.specs.Script.{after_line, line_of, lines_fault, lines_in}
use Rattle.prta_session.proofs.Lines.{bad_line, good_line_first, lines_in_more, after_same}
use Rattle.prta_session.proofs.reading.read_lines.Goals as goal

pub returns-in_err-line : goal.returns-in_err-line
returns-in_err-line c =
    let p = err_from_is_err_and c.from_residual-in_err-line.result c.from_residual-in_err-line.ensures.1 in
    let tasks : List Task = c.tasks-tasks.result.now in
    let line : List ℕ = c.next_part.result.0.now in
    let after : List ℕ = c.in-Some.after.now in
    rw (p.1, p.2) (λ other.
    ap (λ (tasks : List Task). lines_fault tasks 1 c.args.sheet.now (parts 10 c.args.bytes.now)) (sym c.tasks-tasks.ensures.tasks)
    ∙ sym c.lines.invariant.fault
    ∙ ap (lines_fault tasks c.lines.n c.lines.edited) (c.next_part.ensures.parts ∙ ap (λ rest. line ∷ parts_left 10 rest) c.in-Some.is)
    ∙ bad_line tasks c.lines.n c.lines.edited line after c.in_err-line.field-0.0 (c.in_err-line.ensures.read other))

pub lines-preserved : goal.lines-preserved
lines-preserved c =
    let tasks : List Task = c.tasks-tasks.result.now in
    let before : Sheet = c.lines.edited in
    let n : ℕ = c.lines.n in
    let line : List ℕ = c.next_part.result.0.now in
    let after : List ℕ = c.in-Some.after.now in
    let cut : parts 10 c.lines.rest.now ≡ line ∷ parts 10 after = c.next_part.ensures.parts ∙ ap (λ rest. line ∷ parts_left 10 rest) c.in-Some.is in
    let shorter : length after < length c.lines.rest.now = rw c.in-Some.is at c.next_part.ensures.shorter in
    let made : c.read_line.new.sheet ≡ after_line (line_of tasks line) before = c.in_ok-line.ensures.made ∙ ap (λ (l : Line). after_line l before) c.in_ok-line.ensures.read.1 in
    record {
      fault =
          ap (λ (sheet : Sheet). lines_fault tasks (n + 1) sheet (parts 10 after)) made
          ∙ sym (good_line_first tasks n before line after c.in_ok-line.ensures.read.0)
          ∙ sym (ap (lines_fault tasks n before) cut)
          ∙ c.lines.invariant.fault;
      lines =
          ap (λ (script : List Line). script ++ lines_in tasks (parts 10 after)) c.in_ok-push.ensures
          ∙ append_assoc c.lines.script _ _
          ∙ ap (λ (l : Line). c.lines.script ++ (l ∷ lines_in tasks (parts 10 after))) c.in_ok-line.ensures.read.1
          ∙ sym (ap (λ (lines : List Line). c.lines.script ++ lines) (ap (lines_in tasks) cut ∙ lines_in_more tasks line after))
          ∙ c.lines.invariant.lines;
      count = c.lines.invariant.count ∙ sym (ap (λ (sheet : Sheet). length sheet.tasks) made ∙ after_same tasks (line_of tasks line) before);
      place = omega (arith, shorter, c.lines.invariant.place);
    }
