use Rattle.prta_sheet.proofs.Worked.{values}
use Rattle.prta_sheet.proofs.model.worked_values.Goals as goal

pub returns : goal.returns
returns c = values
