use Rattle.prta_response.proofs.Around.{lower_numbers_stay}
use Rattle.prta_response.proofs.laws.lower_numbers_stay.Goals as goal

pub returns : goal.returns
returns c = lower_numbers_stay c.law_of_starts.ensures c.points_bound_backlogs.ensures
