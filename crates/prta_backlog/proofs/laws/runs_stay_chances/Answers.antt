use Rattle.prta_backlog.proofs.Chances.{runs_stay_chances}
use Rattle.prta_backlog.proofs.laws.runs_stay_chances.Goals as goal

pub returns : goal.returns
returns c = runs_stay_chances
