use Rattle.prta_backlog.proofs.Dominance.{runs_keep_dominance}
use Rattle.prta_backlog.proofs.laws.runs_keep_dominance.Goals as goal

pub returns : goal.returns
returns c = runs_keep_dominance
