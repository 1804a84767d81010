use Rattle.prta_sheet.proofs.JobSums.{releases_before}
use Rattle.prta_sheet.proofs.model.releases_before.Goals as goal

pub returns : goal.returns
returns c = releases_before
