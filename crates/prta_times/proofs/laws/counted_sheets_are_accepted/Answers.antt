use Rattle.prta_times.specs.declared.points.Points.TheVariants.{Every}
use Rattle.prta_times.proofs.CountedAccepted.{counted_are_accepted}
use Rattle.prta_times.proofs.laws.counted_sheets_are_accepted.Goals as goal

pub returns : goal.returns
returns c = λ sheet bytes is h. counted_are_accepted (record { makes = c.faultless_pairs.ensures; one = c.reduction_is_one.ensures; tables = c.reduction_is_table.ensures }) Every sheet bytes tt is h
