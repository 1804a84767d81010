use Rattle.prta_slack.proofs.EachPasses.{passing_is_each}
use Rattle.prta_slack.proofs.laws.passing_is_each.Goals as goal

pub returns : goal.returns
returns c = passing_is_each c.own_jobs_in_turn.ensures
