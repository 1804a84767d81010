use Rattle.prta_sheet.proofs.First.{served_first}
use Rattle.prta_sheet.proofs.model.served_first.Goals as goal

pub returns : goal.returns
returns c = served_first
