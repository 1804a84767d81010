-- the runs so far, from 0 to now
use Rattle.std.proofs.Common.{◌≡◌, ◌-◌, ◌<◌, ◌≤◌, length, IfSome, All}
use Rattle.prta_ticksim.specs.declared.run.Run.{Run}
use Rattle.prta_report.specs.TraceLaws.{AreInTurn}
use Rattle.prta_writer.proofs.trace.all_runs.Given as goal

abbrev pub invariant-loop-run : goal.invariant-loop-run
invariant-loop-run l = record {
  rest : l.machine ≡ record l.fn.machine { ticks = l.machine.ticks };
  within : l.machine.ticks ≤ l.fn.machine.horizon;
  runs : AreInTurn l.fn.machine 0 l.machine.ticks l.runs.items;
  jobs : All (λ (run : Run). IfSome run.who (λ i. i < length l.fn.machine.jobs)) l.runs.items;
  few : length l.runs.items ≤ l.machine.ticks;
}

abbrev pub decreases-loop-run : goal.decreases-loop-run
decreases-loop-run l = l.fn.machine.horizon - l.machine.ticks
