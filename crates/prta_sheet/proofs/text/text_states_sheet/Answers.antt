use Rattle.prta_sheet.proofs.Canonical.{read_back}
use Rattle.prta_sheet.proofs.text.text_states_sheet.Goals as goal

pub returns : goal.returns
returns c = read_back
