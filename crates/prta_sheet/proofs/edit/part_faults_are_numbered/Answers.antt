use Rattle.prta_sheet.proofs.Numbered.{part_faults_are_numbered as law}
use Rattle.prta_sheet.proofs.edit.part_faults_are_numbered.Goals as goal

pub returns : goal.returns
returns c = law
