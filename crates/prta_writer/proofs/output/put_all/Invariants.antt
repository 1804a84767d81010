-- the sink took the text so far, and its count of faults has not fallen
use Rattle.std.proofs.Common.{◌≤◌, ◌-◌, length, take}
use Rattle.prta_writer.specs.Writing.{Took}
use Rattle.prta_writer.proofs.output.put_all.Given as goal

abbrev pub invariant-loop-taken : goal.invariant-loop-taken
invariant-loop-taken g l =
    (l.taken ≤ length l.text)
    × Took (g.K.Sink.taken l.fn.sink) (g.K.Sink.taken l.sink) (take l.taken l.text)
    × (g.K.Sink.faults l.fn.sink ≤ g.K.Sink.faults l.sink)

abbrev pub decreases-loop-taken : goal.decreases-loop-taken
decreases-loop-taken g l = length l.text - l.taken
