use Rattle.std.proofs.Common.{codes, refl, ap, ◌∙◌, append_assoc}
use Rattle.prta_report.specs.Page.{PageParts}
use Rattle.prta_writer.proofs.report.push_head.Goals as goal

pub returns-in-Analyse-clause-written : goal.returns-in-Analyse-clause-written
returns-in-Analyse-clause-written c =
    c.count_line.ensures.written ∙ rw (c.in-Analyse.is, ap (λ (p : PageParts). p.written) c.push.ensures) (append_assoc c.args.page.now.written (codes "prta analyse 1\n") _)

pub returns-in-Ledger-clause-written : goal.returns-in-Ledger-clause-written
returns-in-Ledger-clause-written c =
    c.count_line-in-Ledger.ensures.written ∙ rw (c.in-Ledger.is, ap (λ (p : PageParts). p.written) c.push-in-Ledger.ensures) (append_assoc c.args.page.now.written (codes "prta ledger 1\n") _)

pub returns-in-Certify-clause-written : goal.returns-in-Certify-clause-written
returns-in-Certify-clause-written c = ap (λ (p : PageParts). p.written) c.push-in-Certify.ensures ∙ rw c.in-Certify.is refl

pub returns-in-AnalyseCsv-clause-written : goal.returns-in-AnalyseCsv-clause-written
returns-in-AnalyseCsv-clause-written c = ap (λ (p : PageParts). p.written) c.push-in-AnalyseCsv.ensures ∙ rw c.in-AnalyseCsv.is refl
