-- the lines of the entries so far
use Rattle.std.proofs.Common.{◌≡◌, ◌+◌, ◌≤◌, ◌++◌, length, take, flat_map}
use Rattle.prta_report.specs.Text.{line_of_entry}
use Rattle.prta_writer.specs.Writing.{TookAllBut}
use Rattle.prta_writer.proofs.rows.put_entries.Given as goal

abbrev pub invariant-loop-entry : goal.invariant-loop-entry
invariant-loop-entry g l = record {
  took : TookAllBut (g.O.Sink.taken l.fn.out) (g.O.Sink.taken l.out) (l.fn.page.written ++ flat_map (line_of_entry l.sheet.tasks) (take l.entry-index l.entries)) l.page.written;
  size : length l.page.written + l.page.spare ≡ length l.fn.page.written + l.fn.page.spare;
  faults : g.O.Sink.faults l.fn.out ≤ g.O.Sink.faults l.out;
}
