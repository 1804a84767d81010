use Rattle.std.proofs.Common.{refl}
use Rattle.prta_tail.proofs.Proper.{all_proper}
use Rattle.prta_tail.proofs.ratio.stated_ratios.Goals as goal

pub returns : goal.returns
returns c = record { of_code = refl; numbers = refl; proper = all_proper }
