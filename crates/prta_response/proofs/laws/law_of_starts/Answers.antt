use Rattle.prta_response.proofs.Starts.{starts}
use Rattle.prta_response.proofs.laws.law_of_starts.Goals as goal

pub returns : goal.returns
returns c = λ dir tasks level support start m is long claim. starts tasks level is c.orders_have_places.ensures c.schedule_to_backlog.ensures dir support start m long claim
