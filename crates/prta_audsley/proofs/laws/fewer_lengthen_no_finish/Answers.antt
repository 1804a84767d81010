use Rattle.prta_audsley.proofs.Finishes.{fewer_lengthen_no_finish}
use Rattle.prta_audsley.proofs.laws.fewer_lengthen_no_finish.Goals as goal

pub returns : goal.returns
returns c = fewer_lengthen_no_finish c.schedule_to_backlog.ensures
