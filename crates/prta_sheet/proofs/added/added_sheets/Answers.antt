use Rattle.prta_sheet.proofs.AddedTicks.{added_sheets as law}
use Rattle.prta_sheet.proofs.added.added_sheets.Goals as goal

pub returns : goal.returns
returns c = law
