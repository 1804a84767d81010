use Rattle.std.proofs.Common.{refl}
use Rattle.prta_sheet.proofs.edit.worked_edits.Goals as goal

pub returns : goal.returns
returns c = record {
  another_table = refl;
  another_deadline = refl;
  good_table = refl;
  good_deadline = refl;
  good_allowance = refl;
  no_table = refl;
  great_time = refl;
  no_deadline = refl;
  greatest_deadline = refl;
  great_deadline = refl;
  great_allowance = refl;
}
