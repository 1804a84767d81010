use Rattle.prta_backlog.proofs.Walks.{greatest_numbers_are_low}
use Rattle.prta_backlog.proofs.laws.greatest_numbers_are_low.Goals as goal

pub returns : goal.returns
returns c = greatest_numbers_are_low
