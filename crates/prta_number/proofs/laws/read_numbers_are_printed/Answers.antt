use Rattle.prta_number.proofs.Numbers.{read_numbers_are_printed}
use Rattle.prta_number.proofs.laws.read_numbers_are_printed.Goals as goal

pub returns : goal.returns
returns c = read_numbers_are_printed
