use Rattle.std.proofs.Common.{◌∙◌}
use Rattle.toml.specs.View.{view}
use Rattle.prta_sheet.proofs.Items.{is_cycle_of_values}
use Rattle.prta_sheet.proofs.conditions.is_cycle.Goals as goal

pub returns-in-Some : goal.returns-in-Some
returns-in-Some c = c.are_tables_of_cycle.ensures ∙ is_cycle_of_values (view c.args.value.now) c.in-Some.items.now.items c.in-Some.ensures
