use Rattle.prta_certificate.proofs.Bounding.{steady_hold}
use Rattle.prta_certificate.proofs.laws.steady_numbers_hold.Goals as goal

pub returns : goal.returns
returns c = steady_hold c.law_of_starts.ensures c.certified_lists_bound.ensures
