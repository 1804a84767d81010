use Rattle.prta_certificate.proofs.Search.{search_decides}
use Rattle.prta_certificate.proofs.laws.search_decides.Goals as goal

pub returns : goal.returns
returns c = search_decides
