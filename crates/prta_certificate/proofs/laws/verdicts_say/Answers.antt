use Rattle.prta_certificate.proofs.Verdicts.{verdicts_say}
use Rattle.prta_certificate.proofs.laws.verdicts_say.Goals as goal

pub returns : goal.returns
returns c = verdicts_say
