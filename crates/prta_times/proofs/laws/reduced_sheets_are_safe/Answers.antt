use Rattle.prta_times.proofs.ReducedSafe.{reduced_are_safe}
use Rattle.prta_times.proofs.laws.reduced_sheets_are_safe.Goals as goal

pub returns : goal.returns
returns c =
    reduced_are_safe (record { makes = c.faultless_pairs.ensures; one = c.reduction_is_one.ensures; tables = c.reduction_is_table.ensures })
    c.reduction_is_safe.ensures c.later_times_lower_no_chance.ensures
