use Rattle.prta_sheet.proofs.Weighing.{independent_job}
use Rattle.prta_sheet.proofs.model.independent_job.Goals as goal

pub returns : goal.returns
returns c = independent_job
