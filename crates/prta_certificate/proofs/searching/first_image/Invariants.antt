-- the main curve is the image of this number, and none before it certifies
use Rattle.std.proofs.Common.{◌≡◌, ℕ, ◌<◌, false, vec_len}
use Rattle.prta_backlog.specs.Fitting.{FitsCap}
use Rattle.prta_backlog.specs.Level.{sheet_level}
use Rattle.prta_certificate.specs.Certificate.{certifies}
use Rattle.prta_certificate.specs.Candidates.{image_of_point}
use Rattle.prta_certificate.proofs.searching.first_image.Given as goal

abbrev pub invariant-loop-turn : goal.invariant-loop-turn
invariant-loop-turn g l = record {
  fits : FitsCap l.sheet.settings.cap (g.C.Curve.cells l.bench.main) (g.C.Curve.cells l.bench.spare) (g.C.Curve.cells l.bench.kept)
      (vec_len l.bench.cells) (vec_len l.bench.tail) (vec_len l.bench.room);
  main : g.C.Curve.cells l.bench.main ≡ image_of_point l.sheet.tasks (sheet_level l.fn.task) l.sheet.settings.cap l.turn;
  fail : (i : ℕ) → i < l.turn → certifies l.sheet.tasks (sheet_level l.fn.task) (image_of_point l.sheet.tasks (sheet_level l.fn.task) l.sheet.settings.cap i) ≡ false;
}
