use Rattle.prta_times.specs.declared.points.Points.TheVariants.{AtMost}
use Rattle.prta_times.proofs.CountedAccepted.{counted_are_accepted}
use Rattle.prta_times.proofs.laws.reduced_sheets_are_accepted.Goals as goal

pub returns : goal.returns
returns c = λ k sheet bytes some few is h. counted_are_accepted (record { makes = c.faultless_pairs.ensures; one = c.reduction_is_one.ensures; tables = c.reduction_is_table.ensures }) (AtMost k) sheet bytes (some, few) is h
