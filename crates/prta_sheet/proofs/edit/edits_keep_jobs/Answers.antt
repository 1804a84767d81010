use Rattle.prta_sheet.proofs.Edited.{edits_keep_jobs as law}
use Rattle.prta_sheet.proofs.edit.edits_keep_jobs.Goals as goal

pub returns : goal.returns
returns c = law
