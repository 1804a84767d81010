use Rattle.prta_dual.proofs.OwnJobs.{own_jobs_in_turn}
use Rattle.prta_dual.proofs.laws.own_jobs_in_turn.Goals as goal

pub returns : goal.returns
returns c = own_jobs_in_turn
