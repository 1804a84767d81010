-- only the ticks change
use Rattle.std.proofs.Common.{◌≡◌, ◌-◌, ◌≤◌}
use Rattle.prta_ticksim.proofs.machine.Machine.run_to.Given as goal

abbrev pub invariant-loop-self : goal.invariant-loop-self
invariant-loop-self l = (l.self ≡ record l.fn.self { ticks = l.self.ticks }) × (l.self.ticks ≤ l.t)

abbrev pub decreases-loop-self : goal.decreases-loop-self
decreases-loop-self l = l.t - l.self.ticks
