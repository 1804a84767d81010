use Rattle.prta_sheet.proofs.Statable.{accepted_are_statable}
use Rattle.prta_sheet.proofs.text.accepted_are_statable.Goals as goal

pub returns : goal.returns
returns c = accepted_are_statable
