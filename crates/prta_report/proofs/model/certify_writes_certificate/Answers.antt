use Rattle.prta_report.proofs.CertificateLines.{certify_writes}
use Rattle.prta_report.proofs.model.certify_writes_certificate.Goals as goal

pub returns : goal.returns
returns c = certify_writes
