-- Stretches of ticks in which the same job runs, or none does.
use Rattle.std.specs.Prelude.{◌≡◌, ◌≢◌, ℕ, ◌<◌, ◌≤◌}
use Rattle.prta_ticksim.specs.declared.run.Run.{Run}
use Rattle.prta_ticksim.specs.Machine.{MachineParts, running}

-- a longest stretch: in each of its ticks the same job runs, and in the tick after it, where that is before the horizon, another one
pub record IsLongestRun (machine : MachineParts) (run : Run) : Type 0 where
  pub some : run.from < run.to
  pub within : run.to ≤ machine.horizon
  pub same : (t : ℕ) → run.from ≤ t → t < run.to → running machine t ≡ run.who
  pub longest : run.to < machine.horizon → running machine run.to ≢ run.who
