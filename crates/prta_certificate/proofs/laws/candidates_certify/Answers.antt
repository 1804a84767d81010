use Rattle.prta_certificate.proofs.Completeness.{candidates_certify}
use Rattle.prta_certificate.proofs.laws.candidates_certify.Goals as goal

pub returns : goal.returns
returns c = candidates_certify
