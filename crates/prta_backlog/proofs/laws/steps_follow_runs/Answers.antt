use Rattle.prta_backlog.proofs.Steps.{steps_follow_runs}
use Rattle.prta_backlog.proofs.laws.steps_follow_runs.Goals as goal

pub returns : goal.returns
returns c = steps_follow_runs
