use Rattle.prta_response.proofs.Around.{numbers_are_around}
use Rattle.prta_response.proofs.laws.numbers_are_around.Goals as goal

pub returns : goal.returns
returns c = numbers_are_around c.law_of_starts.ensures c.points_bound_backlogs.ensures
