use Rattle.std.proofs.Common.{refl}
use Rattle.prta_ticksim.proofs.model.worked_turns.Goals as goal

pub returns : goal.returns
returns c = record { two_jobs = refl; in_turn = refl; first_table_again = refl; out_of_turn = refl }
