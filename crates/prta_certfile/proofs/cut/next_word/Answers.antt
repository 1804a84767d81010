use Rattle.std.proofs.Common.{sym}
use Rattle.prta_certfile.proofs.Cuts.{words_more, words_last}
use Rattle.prta_certfile.proofs.cut.next_word.Goals as goal

pub returns-in-Some-clause-words : goal.returns-in-Some-clause-words
returns-in-Some-clause-words c = words_more c.args.text.now c.in-Some.word.now c.in-Some.rest.now (sym c.in-Some.ensures.parts)

pub returns-in-None-clause-words : goal.returns-in-None-clause-words
returns-in-None-clause-words c = words_last c.args.text.now (sym c.in-None.ensures.parts)
