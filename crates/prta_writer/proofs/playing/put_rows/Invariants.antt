-- the rows of the tasks so far
use Rattle.std.proofs.Common.{◌≡◌, ◌+◌, ◌≤◌, ◌++◌, length, flat_map}
use Rattle.std.specs.List.{range_with_len}
use Rattle.prta_report.specs.Analysis.{analyse_rows}
use Rattle.prta_writer.specs.Writing.{TookAllBut}
use Rattle.prta_writer.proofs.playing.put_rows.Given as goal

abbrev pub invariant-loop-i : goal.invariant-loop-i
invariant-loop-i g l = record {
  took : TookAllBut (g.O.Sink.taken l.fn.out) (g.O.Sink.taken l.out) (l.fn.page.written ++ flat_map (analyse_rows l.session.sheet) (range_with_len 0 l.i)) l.page.written;
  size : length l.page.written + l.page.spare ≡ length l.fn.page.written + l.fn.page.spare;
  faults : g.O.Sink.faults l.fn.out ≤ g.O.Sink.faults l.out;
}
