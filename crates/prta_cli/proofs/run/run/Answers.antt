use Rattle.prta_words.specs.Words.{texts}
use Rattle.prta_cli.proofs.Refusals.{input_as_told}
use Rattle.prta_cli.proofs.run.run.Goals as goal

pub returns-clause-sheet_refused_where : goal.returns-clause-sheet_refused_where
returns-clause-sheet_refused_where g c = rw c.status.ensures c.obey-ending.ensures.sheet_refused_where

pub returns-clause-input_refused_where : goal.returns-clause-input_refused_where
returns-clause-input_refused_where g c = λ unread. rw c.status.ensures (input_as_told (texts c.args.words.now) (g.S.Shelf.held c.args.shelf.now) _ (c.obey-ending.ensures.before_writing unread))

pub returns-clause-complete : goal.returns-clause-complete
returns-clause-complete g c = λ unread quiet. rw c.status.ensures (c.obey-ending.ensures.complete unread quiet)
