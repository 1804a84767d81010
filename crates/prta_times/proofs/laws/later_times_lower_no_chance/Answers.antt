use Rattle.prta_times.proofs.LaterMisses.{later_times_lower_no_chance}
use Rattle.prta_times.proofs.laws.later_times_lower_no_chance.Goals as goal

pub returns : goal.returns
returns c = later_times_lower_no_chance c.schedule_to_backlog.ensures c.jobs_are_before.ensures
