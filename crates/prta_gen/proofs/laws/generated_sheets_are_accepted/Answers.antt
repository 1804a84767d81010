use Rattle.prta_gen.proofs.Accepted.{generated_are_accepted}
use Rattle.prta_gen.proofs.laws.generated_sheets_are_accepted.Goals as goal

pub returns : goal.returns
returns c = generated_are_accepted
