use Rattle.prta_resample.proofs.Keeping.{resamplings_keep}
use Rattle.prta_resample.proofs.laws.resamplings_keep_chances.Goals as goal

pub returns : goal.returns
returns c = resamplings_keep
