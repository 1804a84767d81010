use Rattle.prta_audsley.proofs.Greedy.{greedy_finds_orders}
use Rattle.prta_audsley.proofs.laws.greedy_finds_orders.Goals as goal

pub returns : goal.returns
returns c = greedy_finds_orders
