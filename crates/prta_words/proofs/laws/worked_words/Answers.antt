use Rattle.std.proofs.Common.{refl}
use Rattle.prta_words.proofs.laws.worked_words.Goals as goal

pub returns : goal.returns
returns c = record {
  one_name = refl;
  two_names_for_one = refl;
  no_words = refl;
  an_unknown_flag = refl;
  the_flag_after_the_name = refl;
  the_flag_counts = refl;
  the_flag_is_no_name = refl;
  the_flag_twice = refl;
  the_flag_of_another_command = refl;
  after_the_dashes = refl;
  named_after_the_dashes = refl;
  no_flag_after_the_dashes = refl;
  one_dash = refl;
  second_dashes = refl;
}
