use Rattle.prta_slack.proofs.AddedTicks.{added_ticks}
use Rattle.prta_slack.proofs.laws.added_ticks.Goals as goal

pub returns : goal.returns
returns c = added_ticks c.added_sheets.ensures c.numbers_are_around.ensures c.passing_is_each.ensures
