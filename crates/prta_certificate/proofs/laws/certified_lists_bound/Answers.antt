use Rattle.prta_certificate.proofs.Bounding.{certified_bound}
use Rattle.prta_certificate.proofs.laws.certified_lists_bound.Goals as goal

pub returns : goal.returns
returns c = certified_bound c.images_bound_backlogs.ensures c.points_bound_backlogs.ensures
