use Rattle.std.proofs.Common.{◌∙◌, All, sym, subst}
use Rattle.prta_times.specs.Counts.{records_in, later_records}
use Rattle.prta_times.specs.Parts.{IsInRange}
use Rattle.prta_times.proofs.InRange.{are_in_range}
use Rattle.prta_times.proofs.counts.sheet_by.Goals as goal

pub sheet_with-requires-clause-ranges : goal.sheet_with-requires-clause-ranges
sheet_with-requires-clause-ranges c = subst (All IsInRange) (sym (c.deref.ensures.value ∙ c.in_ok-counts.ensures.counts)) (are_in_range (later_records (records_in c.args.bytes.now)))
