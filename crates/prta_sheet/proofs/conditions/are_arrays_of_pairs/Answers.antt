use Rattle.std.proofs.Common.{◌∙◌}
use Rattle.toml.specs.View.{view}
use Rattle.prta_sheet.specs.Format.{is_array_of, is_pair}
use Rattle.prta_sheet.proofs.Items.{is_array_of_values}
use Rattle.prta_sheet.proofs.conditions.are_arrays_of_pairs.Goals as goal

pub returns-in-Some : goal.returns-in-Some
returns-in-Some c = c.each_has_pairs.ensures ∙ is_array_of_values (is_array_of is_pair) (view c.args.value.now) c.in-Some.items.now.items c.in-Some.ensures
