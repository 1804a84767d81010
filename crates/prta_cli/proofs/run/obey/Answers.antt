use Rattle.prta_words.specs.Words.{texts}
use Rattle.prta_cli.specs.Words.{command_of}
use Rattle.prta_cli.proofs.Refusals.{as_told, unserved_as_told, refused_as_told}
use Rattle.prta_cli.proofs.run.obey.Goals as goal

pub returns-in-Ok-clause-sheet_refused_where : goal.returns-in-Ok-clause-sheet_refused_where
returns-in-Ok-clause-sheet_refused_where g c = λ unread.
    refused_as_told (texts c.args.words.now) (command_of c.in-Ok.command) c.in-Ok.ensures.good (g.S.Shelf.faults c.args.shelf.now) (g.S.Shelf.faults c.follow.new.shelf)
    (g.O.Sink.taken c.args.out.now) (g.O.Sink.taken c.follow.new.out) (g.S.Shelf.held c.args.shelf.now) c.follow.result
    c.follow.ensures.ending c.follow.ensures.fault unread c.follow.ensures.ends

pub returns-in-Ok-clause-before_writing : goal.returns-in-Ok-clause-before_writing
returns-in-Ok-clause-before_writing g c = λ unread.
    unserved_as_told (texts c.args.words.now) (command_of c.in-Ok.command) c.in-Ok.ensures.good (g.S.Shelf.faults c.args.shelf.now) (g.S.Shelf.faults c.follow.new.shelf)
    (g.O.Sink.taken c.args.out.now) (g.O.Sink.taken c.follow.new.out) (g.S.Shelf.held c.args.shelf.now) c.follow.result
    c.follow.ensures.ending c.follow.ensures.fault unread c.follow.ensures.ends

pub returns-in-Ok-clause-complete : goal.returns-in-Ok-clause-complete
returns-in-Ok-clause-complete g c = λ unread quiet.
    as_told (texts c.args.words.now) (command_of c.in-Ok.command) c.in-Ok.ensures.good (g.S.Shelf.faults c.args.shelf.now) (g.S.Shelf.faults c.follow.new.shelf)
    (g.O.Sink.taken c.args.out.now) (g.O.Sink.taken c.follow.new.out) (g.S.Shelf.held c.args.shelf.now) c.follow.result
    c.follow.ensures.ending c.follow.ensures.fault unread (λ failed. quiet (c.follow.ensures.write_fault failed)) c.follow.ensures.ends
