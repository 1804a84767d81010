use Rattle.prta_dist.proofs.Windows.{windows_add}
use Rattle.prta_dist.proofs.laws.windows_add.Goals as goal

pub returns : goal.returns
returns c = windows_add
