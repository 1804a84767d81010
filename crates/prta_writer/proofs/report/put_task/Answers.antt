use Rattle.std.proofs.Common.{◌≡◌, ℕ, ◌++◌, OnErr, List, ap, ap₂, sym, subst}
use Rattle.prta_report.specs.Page.{PageParts}
use Rattle.prta_report.specs.Analysis.{analyse_rows, csv_rows, ledger_rows}
use Rattle.prta_writer.specs.Report.{rows}
use Rattle.prta_writer.specs.Writing.{TookPart}
use Rattle.prta_writer.proofs.report.put_task.Goals as goal

pub returns-in-Analyse-clause-part : goal.returns-in-Analyse-clause-part
returns-in-Analyse-clause-part g c =
    let same : c.args.desk.now.page.written ++ analyse_rows c.args.sheet.now c.args.task ≡ c.args.desk.now.page.written ++ rows c.args.what c.args.sheet.now c.args.task =
    ap (λ (r : List ℕ). c.args.desk.now.page.written ++ r) (sym (ap (λ what. rows what c.args.sheet.now c.args.task) c.in-Analyse.is)) in
    subst (λ t. OnErr c.put_job_rows.result (TookPart (g.O.Sink.taken c.args.out.now) (g.O.Sink.taken c.put_job_rows.new.out) t)) same c.put_job_rows.ensures.part

pub returns-in-Ledger-clause-part : goal.returns-in-Ledger-clause-part
returns-in-Ledger-clause-part g c =
    let same : c.analyse.new.desk.page.written ++ ledger_rows c.args.sheet.now c.args.task ≡ c.args.desk.now.page.written ++ rows c.args.what c.args.sheet.now c.args.task =
    ap₂ (λ (p : PageParts) (r : List ℕ). p.written ++ r) c.analyse.ensures.page (sym (ap (λ what. rows what c.args.sheet.now c.args.task) c.in-Ledger.is)) in
    subst (λ t. OnErr c.put_gap_rows.result (TookPart (g.O.Sink.taken c.args.out.now) (g.O.Sink.taken c.put_gap_rows.new.out) t)) same c.put_gap_rows.ensures.part

pub returns-in-Certify-clause-part : goal.returns-in-Certify-clause-part
returns-in-Certify-clause-part g c =
    subst (λ (row : List ℕ). OnErr c.put_level.result (TookPart (g.O.Sink.taken c.args.out.now) (g.O.Sink.taken c.put_level.new.out) (c.args.desk.now.page.written ++ row)))
    (sym (ap (λ what. rows what c.args.sheet.now c.args.task) c.in-Certify.is)) c.put_level.ensures.part

pub returns-in-AnalyseCsv-clause-part : goal.returns-in-AnalyseCsv-clause-part
returns-in-AnalyseCsv-clause-part g c =
    let same : c.args.desk.now.page.written ++ csv_rows c.args.sheet.now c.args.task ≡ c.args.desk.now.page.written ++ rows c.args.what c.args.sheet.now c.args.task =
    ap (λ (r : List ℕ). c.args.desk.now.page.written ++ r) (sym (ap (λ what. rows what c.args.sheet.now c.args.task) c.in-AnalyseCsv.is)) in
    subst (λ t. OnErr c.put_job_rows-in-AnalyseCsv.result (TookPart (g.O.Sink.taken c.args.out.now) (g.O.Sink.taken c.put_job_rows-in-AnalyseCsv.new.out) t)) same c.put_job_rows-in-AnalyseCsv.ensures.part
