-- the rows of the tasks so far
use Rattle.std.proofs.Common.{◌≡◌, ◌+◌, ◌≤◌, ◌++◌, length, vec_len, flat_map}
use Rattle.std.specs.List.{range_with_len}
use Rattle.prta_backlog.specs.Fitting.{FitsCap}
use Rattle.prta_report.specs.Certificates.{verify_rows}
use Rattle.prta_writer.specs.Writing.{TookAllBut}
use Rattle.prta_writer.proofs.verifying.put_rows.Given as goal

abbrev pub invariant-loop-i : goal.invariant-loop-i
invariant-loop-i g l = record {
  took : TookAllBut (g.O.Sink.taken l.fn.out) (g.O.Sink.taken l.out) (l.fn.page.written ++ flat_map (verify_rows l.sheet l.levels) (range_with_len 0 l.i)) l.page.written;
  fits : FitsCap l.sheet.settings.cap (g.C.Curve.cells l.bench.main) (g.C.Curve.cells l.bench.spare) (g.C.Curve.cells l.bench.kept)
      (vec_len l.bench.cells) (vec_len l.bench.tail) (vec_len l.bench.room);
  places : length l.places ≡ length l.fn.places;
  size : length l.page.written + l.page.spare ≡ length l.fn.page.written + l.fn.page.spare;
  faults : g.O.Sink.faults l.fn.out ≤ g.O.Sink.faults l.out;
}
