use Rattle.prta_tail.proofs.Holding.{numbers_hold}
use Rattle.prta_tail.proofs.laws.tail_numbers_hold.Goals as goal

pub returns : goal.returns
returns c = numbers_hold c.law_of_starts.ensures c.base_lists_bound.ensures
