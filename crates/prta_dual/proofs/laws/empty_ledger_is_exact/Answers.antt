use Rattle.prta_dual.proofs.Gap.{exact_where_empty}
use Rattle.prta_dual.proofs.laws.empty_ledger_is_exact.Goals as goal

pub returns : goal.returns
returns c = exact_where_empty c.numbers_are_around.ensures
