use Rattle.prta_response.proofs.EvenTasks.{worked_law}
use Rattle.prta_response.proofs.worked.worked_law.Goals as goal

pub returns : goal.returns
returns c = worked_law c.law_of_starts.ensures c.points_bound_backlogs.ensures c.worked_responses.ensures
