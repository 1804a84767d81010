use Rattle.std.proofs.Common.{refl}
use Rattle.prta_convlane.proofs.Worked.{up_to_one, down_to_two}
use Rattle.prta_convlane.proofs.laws.worked_limbs.Goals as goal

pub returns : goal.returns
returns c = record {
  unit_halves = (refl, refl);
  below_halves = (refl, refl);
  unit_quarters = (refl, refl, refl, refl);
  below_quarters = (refl, refl, refl, refl);
  joined_again = refl;
  high_sum = refl;
  low_sum = refl;
  nothing_before = refl;
  not_rounded = up_to_one;
  rounded = down_to_two;
}
