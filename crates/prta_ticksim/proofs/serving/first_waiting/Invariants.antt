-- the first of the jobs so far
use Rattle.prta_ticksim.specs.Serving.{IsFirstWaiting}
use Rattle.prta_ticksim.proofs.serving.first_waiting.Given as goal

abbrev pub invariant-loop-i : goal.invariant-loop-i
invariant-loop-i l = IsFirstWaiting l.order l.jobs l.left l.now l.i l.first
