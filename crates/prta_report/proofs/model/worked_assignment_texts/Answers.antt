use Rattle.std.proofs.Common.{refl}
use Rattle.prta_report.specs.Assignment.{name_text}
use Rattle.prta_report.proofs.model.worked_assignment_texts.Goals as goal

pub returns : goal.returns
unfolding name_text
returns c = record { order = refl; impossible = refl; undecided = refl }
