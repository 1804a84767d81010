use Rattle.prta_backlog.proofs.Steps.{runs_stay_still}
use Rattle.prta_backlog.proofs.laws.runs_stay_still.Goals as goal

pub returns : goal.returns
returns c = runs_stay_still
