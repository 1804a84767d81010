use Rattle.prta_certificate.proofs.Completeness.{none_certifies}
use Rattle.prta_certificate.proofs.laws.none_certifies.Goals as goal

pub returns : goal.returns
returns c = none_certifies
