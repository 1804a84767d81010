use Rattle.prta_audsley.proofs.Uppers.{fewer_raise_no_upper}
use Rattle.prta_audsley.proofs.laws.fewer_raise_no_upper.Goals as goal

pub returns : goal.returns
returns c = fewer_raise_no_upper
