use Rattle.std.proofs.Common.{◌≡◌, ◌++◌, OnOk, OnErr, ap, sym, ◌∙◌, subst}
use Rattle.prta_certfile.specs.Steps.{cells_by_steps}
use Rattle.prta_report.specs.Certificates.{certified_rows, level_rows}
use Rattle.prta_writer.specs.Writing.{TookPart, TookAllBut}
use Rattle.prta_writer.proofs.verifying.put_level.Given as given
use Rattle.prta_writer.proofs.verifying.put_level.Goals as goal
use Rattle.prta_writer.proofs.verifying.put_level.Goals.{After-put_certified}

-- the rows of a level with a list
rows_are : (g : given.Over) (c : After-put_certified g) →
    certified_rows c.args.sheet.now c.args.task (g.C.Curve.cells c.load_steps.new.bench.main) ≡ level_rows c.args.sheet.now c.args.task c.args.level.now
rows_are g c =
    ap (certified_rows c.args.sheet.now c.args.task) (c.load_steps.ensures.main ∙ ap (λ cap. cells_by_steps cap c.in-Steps.steps) c.requires.fits.main_is)
    ∙ sym (ap (level_rows c.args.sheet.now c.args.task) c.in-Steps.is)

pub returns-in-Steps-clause-took : goal.returns-in-Steps-clause-took
returns-in-Steps-clause-took g c =
    subst (λ rows. OnOk c.put_certified.result (TookAllBut (g.O.Sink.taken c.args.out.now) (g.O.Sink.taken c.put_certified.new.out) (c.args.page.now.written ++ rows) c.put_certified.new.page.written))
    (rows_are g (goal.at.returns-in-Steps-clause-took g c).After-put_certified) c.put_certified.ensures.took

pub returns-in-Steps-clause-part : goal.returns-in-Steps-clause-part
returns-in-Steps-clause-part g c =
    subst (λ rows. OnErr c.put_certified.result (TookPart (g.O.Sink.taken c.args.out.now) (g.O.Sink.taken c.put_certified.new.out) (c.args.page.now.written ++ rows)))
    (rows_are g (goal.at.returns-in-Steps-clause-part g c).After-put_certified) c.put_certified.ensures.part
