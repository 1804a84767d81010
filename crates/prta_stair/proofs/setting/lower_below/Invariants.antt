use Rattle.std.proofs.Common.{length}
use Rattle.prta_stair.proofs.Lowered.{Lowered}
use Rattle.prta_stair.proofs.setting.lower_below.Given as goal

abbrev pub invariant-loop-i : goal.invariant-loop-i
invariant-loop-i l = Lowered l.steps l.s l.top (length l.to) l.i l.count l.to
