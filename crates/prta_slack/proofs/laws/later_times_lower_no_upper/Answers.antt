use Rattle.prta_slack.proofs.LaterRuns.{later_times_lower_no_upper}
use Rattle.prta_slack.proofs.laws.later_times_lower_no_upper.Goals as goal

pub returns : goal.returns
returns c = later_times_lower_no_upper
