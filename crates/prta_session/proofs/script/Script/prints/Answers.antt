use Rattle.std.proofs.Common.{ap, ◌∙◌}
use Rattle.prta_session.specs.Playing.{print_count}
use Rattle.prta_session.proofs.Lines.{print_count_is}
use Rattle.prta_session.proofs.script.Script.prints.Goals as goal

pub returns : goal.returns
returns c = c.prints_in.ensures ∙ print_count_is c.self.inside.lines.items ∙ ap print_count c.self.view_is
