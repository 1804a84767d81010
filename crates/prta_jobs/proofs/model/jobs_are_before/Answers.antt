use Rattle.prta_jobs.proofs.JobsBefore.{are_before}
use Rattle.prta_jobs.proofs.model.jobs_are_before.Goals as goal

pub returns : goal.returns
returns c = are_before
