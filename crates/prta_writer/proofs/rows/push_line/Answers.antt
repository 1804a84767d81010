use Rattle.std.proofs.Common.{◌≡◌, ℕ, ◌≤◌, ◌++◌, ap, sym, ◌∙◌, subst}
use Rattle.prta_mass.specs.Unit.{unit}
use Rattle.prta_sheet.specs.Sheet.{Sheet}
use Rattle.prta_sheet.specs.Job.{nth_job}
use Rattle.prta_ledger.specs.Sums.{sum_for}
use Rattle.prta_dual.specs.declared.bounds.Bounds.{Bounds}
use Rattle.prta_dual.specs.Numbers.{bounds_of}
use Rattle.prta_dual.specs.Entries.{job_sum}
use Rattle.prta_report.specs.Text.{line_of_job, record_of_job, line_of_gap}
use Rattle.prta_backlog.specs.Level.{sheet_level}
use Rattle.prta_writer.specs.declared.rows.JobLine.{JobLine}
use Rattle.prta_writer.specs.Rows.{line_at, HasEntries}
use Rattle.prta_writer.proofs.RowsInTurn.{low_bounds}
use Rattle.prta_writer.proofs.rows.push_line.Goals as goal

pub job_line-requires-clause-lower : goal.job_line-requires-clause-lower
job_line-requires-clause-lower c = subst (λ (b : Bounds). b.lower ≤ unit) (sym c.requires.numbers) (low_bounds c.args.sheet.now (sheet_level c.args.task) c.args.number).0

pub job_line-requires-clause-upper : goal.job_line-requires-clause-upper
job_line-requires-clause-upper c = subst (λ (b : Bounds). b.upper ≤ unit) (sym c.requires.numbers) (low_bounds c.args.sheet.now (sheet_level c.args.task) c.args.number).1

pub returns-in-Numbers-clause-written : goal.returns-in-Numbers-clause-written
returns-in-Numbers-clause-written c =
    let sheet : Sheet = c.args.sheet.now in
    c.job_line.ensures.written
    ∙ ap (λ (b : Bounds). c.args.page.now.written ++ line_of_job sheet.tasks (nth_job sheet.tasks c.args.task c.args.number) b) c.requires.numbers
    ∙ ap (λ (line : JobLine). c.args.page.now.written ++ line_at line sheet (nth_job sheet.tasks c.args.task c.args.number)) (sym c.in-Numbers.is)

pub returns-in-Record-clause-written : goal.returns-in-Record-clause-written
returns-in-Record-clause-written c =
    let sheet : Sheet = c.args.sheet.now in
    c.csv_line.ensures.written
    ∙ ap (λ (b : Bounds). c.args.page.now.written ++ record_of_job sheet.tasks (nth_job sheet.tasks c.args.task c.args.number) b) c.requires.numbers
    ∙ ap (λ (line : JobLine). c.args.page.now.written ++ line_at line sheet (nth_job sheet.tasks c.args.task c.args.number)) (sym c.in-Record.is)

pub returns-in-Gap-clause-written : goal.returns-in-Gap-clause-written
returns-in-Gap-clause-written c =
    let sheet : Sheet = c.args.sheet.now in
    let sum : c.sum_for-sum.result ≡ job_sum sheet (sheet_level c.args.task) (nth_job sheet.tasks c.args.task c.args.number) =
    c.sum_for-sum.ensures ∙ ap (λ es. sum_for c.args.task c.args.number es) (subst (λ (line : JobLine). HasEntries line sheet c.args.task) c.in-Gap.is c.requires.entries) in
    c.gap_line.ensures.written
    ∙ ap (λ (b : Bounds). c.args.page.now.written ++ line_of_gap sheet.tasks (nth_job sheet.tasks c.args.task c.args.number) b c.sum_for-sum.result) c.requires.numbers
    ∙ ap (λ (s : ℕ). c.args.page.now.written ++ line_of_gap sheet.tasks (nth_job sheet.tasks c.args.task c.args.number) (bounds_of sheet (sheet_level c.args.task) c.args.number) s) sum
    ∙ ap (λ (line : JobLine). c.args.page.now.written ++ line_at line sheet (nth_job sheet.tasks c.args.task c.args.number)) (sym c.in-Gap.is)
