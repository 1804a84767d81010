use Rattle.prta_certfile.proofs.RoundTrip.{certificates_are_read}
use Rattle.prta_certfile.proofs.laws.certificates_are_read.Goals as goal

pub returns : goal.returns
returns c = certificates_are_read
