-- as many ticks so far
use Rattle.std.proofs.Common.{◌≡◌}
use Rattle.prta_ticksim.proofs.tests.make_ticks.Given as goal

abbrev pub invariant-loop : goal.invariant-loop
invariant-loop l = l.machine ≡ record l.fn.machine { ticks = l.counter }
