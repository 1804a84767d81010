-- no list of the tasks so far is broken
use Rattle.std.proofs.Common.{◌≡◌, vec_len}
use Rattle.prta_backlog.specs.Fitting.{FitsCap}
use Rattle.prta_report.specs.Certificates.{broken_task}
use Rattle.prta_writer.proofs.Stated.{broken_from}
use Rattle.prta_writer.proofs.verifying.first_broken.Given as goal

abbrev pub invariant-loop-i : goal.invariant-loop-i
invariant-loop-i g l = record {
  rest : broken_task l.sheet l.levels ≡ broken_from l.sheet l.levels l.i;
  fits : FitsCap l.sheet.settings.cap (g.C.Curve.cells l.bench.main) (g.C.Curve.cells l.bench.spare) (g.C.Curve.cells l.bench.kept)
      (vec_len l.bench.cells) (vec_len l.bench.tail) (vec_len l.bench.room);
}
