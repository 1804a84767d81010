-- so far the same job ran, or none did
use Rattle.std.proofs.Common.{◌≡◌, ℕ, ◌-◌, ◌<◌, ◌≤◌}
use Rattle.prta_ticksim.specs.Machine.{running}
use Rattle.prta_ticksim.proofs.machine.Machine.next_run.Given as goal

abbrev pub invariant-loop-self : goal.invariant-loop-self
invariant-loop-self l = record {
  rest : l.self ≡ record l.fn.self { ticks = l.self.ticks };
  later : l.from < l.self.ticks;
  within : l.self.ticks ≤ l.horizon;
  same : (t : ℕ) → l.from ≤ t → t < l.self.ticks → running l.fn.self t ≡ l.who;
}

abbrev pub decreases-loop-self : goal.decreases-loop-self
decreases-loop-self l = l.horizon - l.self.ticks
