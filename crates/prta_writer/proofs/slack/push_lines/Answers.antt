use Rattle.std.proofs.Common.{◌≡◌, ℕ, ◌++◌, IfOk, List, option_map, ap, sym, ◌∙◌, subst}
use Rattle.prta_sheet.specs.Sheet.{Sheet}
use Rattle.prta_dual.specs.Failing.{found_job}
use Rattle.prta_report.specs.Text.{line_of_fails}
use Rattle.prta_report.specs.Slacks.{slack_rows}
use Rattle.prta_writer.proofs.Checks.{line_found, none_found}
use Rattle.prta_writer.proofs.slack.push_lines.Goals as goal

pub returns-in-Some-clause-written : goal.returns-in-Some-clause-written
returns-in-Some-clause-written c =
    let sheet : Sheet = c.args.sheet.now in
    let first = sym (ap (option_map (found_job sheet)) c.in-Some.is) ∙ c.requires.first in
    c.fails_line.ensures.written ∙ ap (λ (line : List ℕ). c.args.page.now.written ++ line) (sym (line_found (line_of_fails sheet.tasks) sheet c.in-Some.job (slack_rows sheet) first))

pub returns-in-None-clause-written : goal.returns-in-None-clause-written
returns-in-None-clause-written c =
    let sheet : Sheet = c.args.sheet.now in
    let none = sym (ap (option_map (found_job sheet)) c.in-None.is) ∙ c.requires.first in
    subst (λ (rows : List ℕ). IfOk c.push_slacks.result (λ _. c.push_slacks.new.page.written ≡ c.args.page.now.written ++ rows))
    (sym (none_found (line_of_fails sheet.tasks) sheet (slack_rows sheet) none)) c.push_slacks.ensures.written
