use Rattle.std.proofs.Common.{◌∙◌, sym}
use Rattle.prta_stair.proofs.Values.{before_is}
use Rattle.prta_stair.proofs.reading.value.Goals as goal

pub returns : goal.returns
returns c = c.last_of.ensures ∙ sym (before_is c.args.steps.now c.args.c c.args.k c.args.i c.requires.rising c.requires.reached c.requires.next)
