use Rattle.std.proofs.Common.{Option, IfSome, subst}
use Rattle.prta_cli.specs.Answer.{Files, answer_to_files}
use Rattle.prta_cli.specs.Ending.{EndsBy}
use Rattle.prta_cli.proofs.Refusals.{ends_by_sheet}
use Rattle.prta_cli.proofs.run.with_files.Goals as goal

pub returns-clause-ends : goal.returns-clause-ends
returns-clause-ends g c =
    let a = g.O.Sink.taken c.args.out.now in
    let b = g.O.Sink.taken c.of_files.new.out in
    ends_by_sheet a b (g.S.Shelf.held c.args.shelf.now) c.args.name.now (λ files sheet. answer_to_files c.args.asked sheet (files c.args.second.now)) c.in-Ok.sheet c.of_files.result c.in-Ok.ensures.sheet
    (subst (λ (held : Option Files). IfSome held (λ files. EndsBy c.of_files.result (answer_to_files c.args.asked c.in-Ok.sheet (files c.args.second.now)) a b)) c.sheet_under.ensures.kept c.of_files.ensures.ends)
