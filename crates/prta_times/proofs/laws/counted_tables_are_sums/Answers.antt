use Rattle.prta_times.proofs.CountedSums.{counted_are_sums}
use Rattle.prta_times.proofs.laws.counted_tables_are_sums.Goals as goal

pub returns : goal.returns
returns c = counted_are_sums
