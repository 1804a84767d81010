use Rattle.prta_backlog.proofs.Dominance.{images_keep_dominance}
use Rattle.prta_backlog.proofs.laws.images_keep_dominance.Goals as goal

pub returns : goal.returns
returns c = images_keep_dominance
