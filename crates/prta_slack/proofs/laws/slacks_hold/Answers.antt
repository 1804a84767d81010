use Rattle.prta_slack.proofs.Slacks.{slacks_hold}
use Rattle.prta_slack.proofs.laws.slacks_hold.Goals as goal

pub returns : goal.returns
returns c = slacks_hold c.added_sheets.ensures c.added_ticks.ensures c.own_jobs_in_turn.ensures
