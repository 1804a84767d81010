use Rattle.prta_audsley.proofs.Misses.{fewer_raise_no_chance}
use Rattle.prta_audsley.proofs.laws.fewer_raise_no_chance.Goals as goal

pub returns : goal.returns
returns c = fewer_raise_no_chance c.schedule_to_backlog.ensures
