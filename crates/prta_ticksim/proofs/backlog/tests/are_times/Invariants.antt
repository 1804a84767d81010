-- the times so far
use Rattle.std.proofs.Common.{take, All}
use Rattle.prta_ticksim.specs.Times.{IsTime}
use Rattle.prta_ticksim.proofs.backlog.tests.are_times.Given as goal

abbrev pub invariant-loop-time : goal.invariant-loop-time
invariant-loop-time l = All IsTime (take l.time-index l.times)
