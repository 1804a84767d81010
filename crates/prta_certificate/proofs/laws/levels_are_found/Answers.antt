use Rattle.prta_certificate.proofs.FoundLevels.{levels_are_found}
use Rattle.prta_certificate.proofs.laws.levels_are_found.Goals as goal

pub returns : goal.returns
returns c = levels_are_found c.verdicts_say.ensures c.steps_are_lists.ensures
