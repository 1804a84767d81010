use Rattle.std.proofs.Common.{◌∙◌}
use Rattle.toml.specs.View.{view}
use Rattle.prta_sheet.specs.Format.{is_pair_with, is_time_with_weight}
use Rattle.prta_sheet.proofs.Items.{is_array_of_values}
use Rattle.prta_sheet.proofs.conditions.are_points.Goals as goal

pub returns-in-Some : goal.returns-in-Some
returns-in-Some c = c.each_is_point.ensures ∙ is_array_of_values (is_pair_with is_time_with_weight) (view c.args.value.now) c.in-Some.items.now.items c.in-Some.ensures
