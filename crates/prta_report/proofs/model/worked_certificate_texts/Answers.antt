use Rattle.std.proofs.Common.{refl}
use Rattle.std.specs.Fmt.{digits}
use Rattle.prta_certfile.specs.Text.{level_head, pair_text, overfull_text, beyond_text}
use Rattle.prta_report.specs.Text.{certified_line, uncertified_line, steady_line, broken_line}
use Rattle.prta_report.proofs.model.worked_certificate_texts.Goals as goal

pub returns : goal.returns
unfolding level_head pair_text overfull_text beyond_text certified_line uncertified_line steady_line broken_line digits
returns c = record { list = refl; overfull = refl; beyond = refl; certified = refl; broken = refl; uncertified = refl }
