-- no job of the tasks so far fails
use Rattle.std.proofs.Common.{◌≡◌, vec_len}
use Rattle.prta_backlog.specs.Fitting.{FitsCap}
use Rattle.prta_dual.specs.Failing.{failing_job}
use Rattle.prta_dual.proofs.FirstFailing.{failing_from}
use Rattle.prta_dual.proofs.failing.first_failing.Given as goal

abbrev pub invariant-loop-task : goal.invariant-loop-task
invariant-loop-task g l = record {
  rest : failing_job l.sheet ≡ failing_from l.sheet l.task;
  others : l.bench ≡ record l.fn.bench { main = l.bench.main; cells = l.bench.cells; tail = l.bench.tail; room = l.bench.room };
  fits : FitsCap l.sheet.settings.cap (g.C.Curve.cells l.bench.main) (g.C.Curve.cells l.bench.spare) (g.C.Curve.cells l.bench.kept)
      (vec_len l.bench.cells) (vec_len l.bench.tail) (vec_len l.bench.room);
}
