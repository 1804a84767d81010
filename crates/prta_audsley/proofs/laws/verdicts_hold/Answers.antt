use Rattle.prta_audsley.proofs.Verdicts.{verdicts_hold}
use Rattle.prta_audsley.proofs.laws.verdicts_hold.Goals as goal

pub returns : goal.returns
returns c = verdicts_hold c.numbers_are_around.ensures c.fewer_raise_no_upper.ensures c.fewer_raise_no_chance.ensures c.greedy_finds_orders.ensures
