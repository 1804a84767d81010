use Rattle.std.proofs.Common.{refl}
use Rattle.std.specs.Fmt.{digits}
use Rattle.prta_certfile.specs.Text.{level_head, pair_text, overfull_text, beyond_text}
use Rattle.prta_certfile.proofs.laws.worked_certificates_text.Goals as goal

pub returns : goal.returns
unfolding level_head pair_text overfull_text beyond_text digits
returns c = record {
  steps_of_cells = refl;
  cells_of_steps = refl;
  text = refl;
  overfull_line = refl;
  beyond_line = refl;
  read = refl;
  stated = refl;
  overfull_read = refl;
  beyond_read = refl;
  leading_zero = refl;
  no_steps = refl;
  two_spaces = refl;
  above_the_unit = refl;
  other_task = refl;
  value_of_0 = refl;
  bad_word_after = refl;
  at_the_cap = refl;
  not_whole = refl;
  more_after_the_end = refl;
  no_last_line_feed = refl;
  no_bytes = refl;
}
