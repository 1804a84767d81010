-- the lines of the numbers so far
use Rattle.std.proofs.Common.{◌≡◌, ◌+◌, ◌≤◌, ◌++◌, length, flat_map}
use Rattle.std.specs.List.{range_with_len}
use Rattle.prta_writer.specs.Writing.{TookAllBut}
use Rattle.prta_writer.proofs.NumberRows.{number_row}
use Rattle.prta_writer.proofs.steadiness.put_numbers.Given as goal

abbrev pub invariant-loop-number : goal.invariant-loop-number
invariant-loop-number g l = record {
  took : TookAllBut (g.O.Sink.taken l.fn.out) (g.O.Sink.taken l.out) (l.fn.page.written ++ flat_map (number_row l.sheet l.task l.found) (range_with_len 0 l.number)) l.page.written;
  size : length l.page.written + l.page.spare ≡ length l.fn.page.written + l.fn.page.spare;
  faults : g.O.Sink.faults l.fn.out ≤ g.O.Sink.faults l.out;
}
