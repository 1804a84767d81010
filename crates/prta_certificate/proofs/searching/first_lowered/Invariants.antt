-- the list that is lowered stands on the spare curve, and none that was lowered before certifies
use Rattle.std.proofs.Common.{◌≡◌, ℕ, ◌<◌, false, vec_len}
use Rattle.prta_backlog.specs.Fitting.{FitsCap}
use Rattle.prta_backlog.specs.Level.{sheet_level}
use Rattle.prta_certificate.specs.Certificate.{certifies}
use Rattle.prta_certificate.specs.Candidates.{lowered, slack}
use Rattle.prta_certificate.proofs.searching.first_lowered.Given as goal

abbrev pub invariant-loop-n : goal.invariant-loop-n
invariant-loop-n g l = record {
  fits : FitsCap l.sheet.settings.cap (g.C.Curve.cells l.bench.main) (g.C.Curve.cells l.bench.spare) (g.C.Curve.cells l.bench.kept)
      (vec_len l.bench.cells) (vec_len l.bench.tail) (vec_len l.bench.room);
  spare : g.C.Curve.cells l.bench.spare ≡ g.C.Curve.cells l.fn.bench.main;
  fail : (i : ℕ) → i < l.n → certifies l.sheet.tasks (sheet_level l.fn.task) (lowered l.sheet.tasks (sheet_level l.fn.task) l.sheet.settings.cap l.sheet.settings.turns (slack i)) ≡ false;
}
