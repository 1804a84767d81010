use Rattle.prta_cli.specs.Answer.{Files, answer_to_sheet}
use Rattle.prta_cli.specs.Ending.{EndsBy}
use Rattle.prta_cli.proofs.Refusals.{ends_by_sheet, each_file}
use Rattle.prta_cli.proofs.run.with_sheet.Goals as goal

pub returns-clause-ends : goal.returns-clause-ends
returns-clause-ends g c =
    let held = g.S.Shelf.held c.args.shelf.now in
    let a = g.O.Sink.taken c.args.out.now in
    let b = g.O.Sink.taken c.of_sheet.new.out in
    ends_by_sheet a b held c.args.name.now (λ files. answer_to_sheet c.args.asked) c.in-Ok.sheet c.of_sheet.result c.in-Ok.ensures.sheet
    (each_file held (λ (files : Files). EndsBy c.of_sheet.result (answer_to_sheet c.args.asked c.in-Ok.sheet) a b) (λ files. c.of_sheet.ensures.ends))
