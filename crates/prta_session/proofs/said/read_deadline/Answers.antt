use Rattle.std.proofs.Common.{ap, sym, ◌∙◌}
use Rattle.prta_session.specs.Saying.{deadline_in}
use Rattle.prta_session.proofs.Sayings.{deadline_left}
use Rattle.prta_session.proofs.said.read_deadline.Goals as goal

pub returns-then-is_some : goal.returns-then-is_some
returns-then-is_some c =
    sym (ap deadline_in c.next_part.ensures.parts ∙ deadline_left c.next_part.result.0.now c.next_part.result.1 (sym c.is_some.ensures ∙ c.if-is_some.true))
