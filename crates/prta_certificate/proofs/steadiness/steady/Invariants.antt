-- the pass follows its level run, with all steady numbers so far
use Rattle.std.proofs.Common.{◌≡◌, ◌-◌, ◌<◌, ◌≤◌, ℕ, length, vec_len, slice_index_or}
use Rattle.prta_sheet.specs.Sheet.{hyperperiod}
use Rattle.prta_sheet.specs.Job.{nth_job}
use Rattle.prta_backlog.specs.Pass.{level_of, after_last}
use Rattle.prta_backlog.specs.Fitting.{FitsCap}
use Rattle.prta_certificate.specs.Certificate.{steady_number}
use Rattle.prta_certificate.proofs.SteadyPass.{Awaiting}
use Rattle.prta_certificate.proofs.steadiness.steady.Given as goal

abbrev pub invariant-loop-number : goal.invariant-loop-number
invariant-loop-number g l = record {
  awaiting : Awaiting l.sheet (g.C.Curve.cells l.fn.bench.main) l.higher l.task l.pass (g.C.Curve.cells l.bench.main) l.number;
  within : l.number ≤ length l.found;
  size : length l.found ≡ length l.fn.found;
  written : (k : ℕ) → k < l.number → slice_index_or l.found k 0 ≡ steady_number l.sheet.tasks (level_of l.higher l.task) (g.C.Curve.cells l.fn.bench.main) (nth_job l.sheet.tasks l.task k);
  fits : FitsCap l.sheet.settings.cap (g.C.Curve.cells l.bench.main) (g.C.Curve.cells l.bench.spare) (g.C.Curve.cells l.bench.kept)
      (vec_len l.bench.cells) (vec_len l.bench.tail) (vec_len l.bench.room);
}

abbrev pub decreases-loop-number : goal.decreases-loop-number
decreases-loop-number g l = hyperperiod l.sheet.tasks - after_last l.pass.last
