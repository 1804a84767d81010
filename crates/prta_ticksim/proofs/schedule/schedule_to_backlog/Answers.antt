use Rattle.prta_ticksim.proofs.ScheduleLaw.{schedule_to_backlog}
use Rattle.prta_ticksim.proofs.schedule.schedule_to_backlog.Goals as goal

pub returns : goal.returns
returns c = schedule_to_backlog c.orders_have_places.ensures c.jobs_are_before.ensures
