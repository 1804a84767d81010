use Rattle.prta_sheet.proofs.RoundTrip.{canonical_is_read}
use Rattle.prta_sheet.proofs.text.canonical_is_read.Goals as goal

pub returns : goal.returns
returns c = canonical_is_read c.faultless_pairs.ensures
