use Rattle.prta_certificate.proofs.Certifying.{test_certifies}
use Rattle.prta_certificate.proofs.laws.test_certifies.Goals as goal

pub returns : goal.returns
returns c = test_certifies
