use Rattle.prta_backlog.proofs.Dominance.{operations_keep_dominance}
use Rattle.prta_backlog.proofs.laws.operations_keep_dominance.Goals as goal

pub returns : goal.returns
returns c = operations_keep_dominance
