use Rattle.std.proofs.Common.{refl}
use Rattle.prta_ticksim.proofs.model.worked_runs.Goals as goal

pub returns : goal.returns
returns c = record { preempted = refl; done_before = refl; other_order = refl; late = refl; left = refl; in_tables = refl; not_in_table = refl; of_another_table = refl }
