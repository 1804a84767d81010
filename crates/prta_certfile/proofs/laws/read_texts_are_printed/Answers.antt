use Rattle.prta_certfile.proofs.Printed.{read_texts_are_printed}
use Rattle.prta_certfile.proofs.laws.read_texts_are_printed.Goals as goal

pub returns : goal.returns
returns c = read_texts_are_printed
