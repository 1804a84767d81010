use Rattle.prta_response.proofs.Starts.{images}
use Rattle.prta_response.proofs.laws.images_bound_backlogs.Goals as goal

pub returns : goal.returns
returns c = λ tasks level cells m is some claim. images tasks level is cells m some claim
