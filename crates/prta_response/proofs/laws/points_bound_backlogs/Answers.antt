use Rattle.prta_response.proofs.Backlogs.{points_bound}
use Rattle.prta_response.proofs.laws.points_bound_backlogs.Goals as goal

pub returns : goal.returns
returns c = points_bound
