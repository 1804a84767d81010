use Rattle.std.proofs.Common.{refl}
use Rattle.prta_session.proofs.worked.worked_sessions.Goals as goal

pub returns : goal.returns
returns c = record {
  printed = refl;
  analysed = refl;
  first_table = refl;
  first_deadline = refl;
  an_allowance = refl;
  no_edit = refl;
  at_first = refl;
  at_second = refl;
  at_third = refl;
}
