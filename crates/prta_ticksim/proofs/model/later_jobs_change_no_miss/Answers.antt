use Rattle.prta_ticksim.proofs.LaterJobs.{later_jobs_change_no_miss}
use Rattle.prta_ticksim.proofs.model.later_jobs_change_no_miss.Goals as goal

pub returns : goal.returns
returns c = later_jobs_change_no_miss
