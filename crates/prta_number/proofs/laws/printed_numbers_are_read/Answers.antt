use Rattle.prta_number.proofs.Numbers.{printed_numbers_are_read}
use Rattle.prta_number.proofs.laws.printed_numbers_are_read.Goals as goal

pub returns : goal.returns
returns c = printed_numbers_are_read
