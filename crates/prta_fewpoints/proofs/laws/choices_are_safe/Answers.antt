use Rattle.prta_fewpoints.proofs.Moved.{choices_safe}
use Rattle.prta_fewpoints.proofs.laws.choices_are_safe.Goals as goal

pub returns : goal.returns
returns c = choices_safe
