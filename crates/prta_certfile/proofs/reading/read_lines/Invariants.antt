-- the lines so far have no fault, and their levels are read
use Rattle.std.proofs.Common.{◌≡◌, ◌+◌, ◌++◌, drop}
use Rattle.prta_certfile.specs.Reading.{lines_fault, levels_in}
use Rattle.prta_certfile.proofs.reading.read_lines.Given as goal

abbrev pub invariant-loop-task : goal.invariant-loop-task
invariant-loop-task l = record {
  line : l.n ≡ 2 + l.task-index;
  fault : lines_fault l.cap (drop l.task-index l.tasks) l.n l.rest ≡ lines_fault l.cap l.tasks 2 l.fn.bytes;
  levels : l.cert ++ levels_in (drop l.task-index l.tasks) l.rest ≡ levels_in l.tasks l.fn.bytes;
}
