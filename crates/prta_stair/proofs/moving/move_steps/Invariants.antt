use Rattle.std.proofs.Common.{length}
use Rattle.prta_stair.proofs.Moves.{Moved}
use Rattle.prta_stair.proofs.moving.move_steps.Given as goal

abbrev pub invariant-loop-i : goal.invariant-loop-i
invariant-loop-i l = Moved l.how l.steps (length l.to) l.i l.count l.to
