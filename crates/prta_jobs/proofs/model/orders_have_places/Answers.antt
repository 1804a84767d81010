use Rattle.prta_jobs.proofs.OrderLists.{each_once, places}
use Rattle.prta_jobs.proofs.model.orders_have_places.Goals as goal

pub returns : goal.returns
returns c = λ n order holds. places n order (each_once n order holds)
