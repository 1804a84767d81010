use Rattle.std.proofs.Common.{option_map, ap, sym, ◌∙◌, append_assoc, codes}
use Rattle.prta_dual.specs.Failing.{found_job}
use Rattle.prta_report.specs.Text.{line_of_no}
use Rattle.prta_writer.proofs.Checks.{line_found}
use Rattle.prta_writer.proofs.checking.push_verdict.Goals as goal

pub returns-in-Some-clause-written : goal.returns-in-Some-clause-written
returns-in-Some-clause-written c =
    let line = line_found (line_of_no c.args.sheet.now.tasks) c.args.sheet.now c.in-Some.job (codes "yes\n") (sym (ap (option_map (found_job c.args.sheet.now)) c.in-Some.is) ∙ c.requires.first) in
    c.no_line.ensures.written ∙ rw (line, c.push.ensures) (append_assoc c.args.page.now.written (codes "prta check 1\n") _)
