use Rattle.std.proofs.Common.{refl}
use Rattle.prta_sheet.proofs.added.worked_added_sheet.Goals as goal

pub returns : goal.returns
returns c = record {
  both_tables = refl;
  of_the_second = refl;
  greatest_of_both = refl;
  its_room = refl;
  its_hyperperiod = refl;
  its_work = refl;
}
