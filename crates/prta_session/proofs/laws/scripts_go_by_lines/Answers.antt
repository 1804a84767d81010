use Rattle.prta_session.proofs.Steps.{scripts_go_by_lines as law}
use Rattle.prta_session.proofs.laws.scripts_go_by_lines.Goals as goal

pub returns : goal.returns
returns c = law
