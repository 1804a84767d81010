use Rattle.prta_tail.proofs.Holding.{lists_bound}
use Rattle.prta_tail.proofs.laws.base_lists_bound.Goals as goal

pub returns : goal.returns
returns c = lists_bound c.backlogs_have_tails.ensures c.images_bound_backlogs.ensures c.points_bound_backlogs.ensures c.images_keep_dominance.ensures
