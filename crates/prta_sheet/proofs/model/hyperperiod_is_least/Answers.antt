use Rattle.prta_sheet.proofs.Multiples.{hyperperiod_is_least}
use Rattle.prta_sheet.proofs.model.hyperperiod_is_least.Goals as goal

pub returns : goal.returns
returns c = hyperperiod_is_least
