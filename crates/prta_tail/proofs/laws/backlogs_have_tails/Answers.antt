use Rattle.prta_tail.proofs.Holding.{tails_are}
use Rattle.prta_tail.proofs.laws.backlogs_have_tails.Goals as goal

pub returns : goal.returns
returns c = tails_are
