use Rattle.std.proofs.Common.{refl}
use Rattle.prta_number.proofs.laws.worked_numbers.Goals as goal

pub returns : goal.returns
returns c = record {
  zero_alone = refl;
  below = refl;
  inside = refl;
  above = refl;
  leading_zero = refl;
  nothing = refl;
  a_sign = refl;
  white_space = refl;
}
