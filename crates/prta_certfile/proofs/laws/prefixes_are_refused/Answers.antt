use Rattle.prta_certfile.proofs.Prefixes.{prefixes_are_refused}
use Rattle.prta_certfile.proofs.laws.prefixes_are_refused.Goals as goal

pub returns : goal.returns
returns c = prefixes_are_refused
