use Rattle.std.proofs.Common.{refl}
use Rattle.prta_ticksim.proofs.model.worked_choices.Goals as goal

pub returns : goal.returns
returns c = record {
  all_ended = refl;
  last_not_ended = refl;
  no_line = refl;
  good = refl;
  no_bad_line = refl;
  no_digit = refl;
  empty_line = refl;
  only_a_return = refl;
  zero = refl;
  leading_zero = refl;
  largest = refl;
  too_large = refl;
  sign = refl;
}
