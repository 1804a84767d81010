use Rattle.std.proofs.Common.{◌≡◌, ap, sym, ◌∙◌}
use Rattle.prta_backlog.specs.Level.{sheet_level}
use Rattle.prta_certfile.specs.Steps.{cells_by_steps}
use Rattle.prta_certificate.specs.Certificate.{broken_at}
use Rattle.prta_report.specs.Certificates.{broken_in}
use Rattle.prta_writer.proofs.verifying.broken_at.Goals as goal

pub returns-in-Steps-clause-broken : goal.returns-in-Steps-clause-broken
returns-in-Steps-clause-broken g c =
    let cells : g.C.Curve.cells c.load_steps.new.bench.main ≡ cells_by_steps c.args.sheet.now.settings.cap c.in-Steps.steps =
    c.load_steps.ensures.main ∙ ap (λ cap. cells_by_steps cap c.in-Steps.steps) c.requires.fits.main_is in
    c.check.ensures.first ∙ ap (broken_at c.args.sheet.now.tasks (sheet_level c.args.task)) cells ∙ sym (ap (broken_in c.args.sheet.now c.args.task) c.in-Steps.is)
