use Rattle.std.proofs.Common.{refl}
use Rattle.prta_session.proofs.worked.worked_scripts.Goals as goal

pub returns : goal.returns
returns c = record {
  faultless = refl;
  read = refl;
  allowance = refl;
  two_pairs = refl;
  empty = refl;
  no_lines = refl;
  empty_line = refl;
  no_line_feed = refl;
  other_word = refl;
  no_deadline = refl;
  two_spaces = refl;
  leading_zero = refl;
  more_words = refl;
  great_number = refl;
  no_pairs = refl;
  no_weight = refl;
  two_weights = refl;
  bad_name = refl;
  unknown = refl;
  unknown_before_table = refl;
  falling_times = refl;
  table_before_index = refl;
  no_such_table = refl;
  great_deadline = refl;
  first_line = refl;
}
