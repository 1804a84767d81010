-- the rows of the tasks so far; what is on the desk and the bench keeps its size
use Rattle.std.proofs.Common.{◌≡◌, ◌+◌, ◌≤◌, ◌++◌, length, vec_len, flat_map}
use Rattle.std.specs.List.{range_with_len}
use Rattle.prta_backlog.specs.Fitting.{FitsCap}
use Rattle.prta_writer.specs.Report.{rows}
use Rattle.prta_writer.specs.Writing.{TookAllBut}
use Rattle.prta_writer.proofs.report.put_rows.Given as goal

abbrev pub invariant-loop-i : goal.invariant-loop-i
invariant-loop-i g l = record {
  took : TookAllBut (g.O.Sink.taken l.fn.out) (g.O.Sink.taken l.out) (l.fn.desk.page.written ++ flat_map (rows l.what l.sheet) (range_with_len 0 l.i)) l.desk.page.written;
  fits : FitsCap l.sheet.settings.cap (g.C.Curve.cells l.bench.main) (g.C.Curve.cells l.bench.spare) (g.C.Curve.cells l.bench.kept)
      (vec_len l.bench.cells) (vec_len l.bench.tail) (vec_len l.bench.room);
  entries : l.fn.desk.ledger.room ≤ l.desk.ledger.room;
  jobs : vec_len l.desk.bounds ≡ vec_len l.fn.desk.bounds;
  size : length l.desk.page.written + l.desk.page.spare ≡ length l.fn.desk.page.written + l.fn.desk.page.spare;
  faults : g.O.Sink.faults l.fn.out ≤ g.O.Sink.faults l.out;
}
