-- the image of this number stands on the spare curve, and each number is the least so far
use Rattle.std.proofs.Common.{◌≡◌, ◌-◌, ◌≤◌, map, length, vec_len}
use Rattle.std.specs.List.{range_with_len}
use Rattle.prta_sheet.specs.Job.{nth_job}
use Rattle.prta_backlog.specs.Level.{sheet_level}
use Rattle.prta_backlog.specs.Fitting.{FitsCap}
use Rattle.prta_tail.specs.Tail.{base_list, image_of, least_steady}
use Rattle.prta_tail.proofs.steadiness.tail_steady.Given as goal

abbrev pub invariant-loop-turn : goal.invariant-loop-turn
invariant-loop-turn g l =
    let tasks = l.sheet.tasks in
    let level = sheet_level l.task in
    let base = base_list tasks level l.sheet.settings.cap l.fn.ratio in
    record {
      fits : FitsCap l.sheet.settings.cap (g.C.Curve.cells l.bench.main) (g.C.Curve.cells l.bench.spare) (g.C.Curve.cells l.bench.kept)
          (vec_len l.bench.cells) (vec_len l.bench.tail) (vec_len l.bench.room);
      spare : g.C.Curve.cells l.bench.spare ≡ image_of tasks level base l.turn;
      size : length l.found ≡ length l.fn.found;
      least : l.found ≡ map (λ k. least_steady tasks level base (nth_job tasks l.task k) l.turn) (range_with_len 0 (length l.fn.found));
      within : l.turn ≤ l.turns;
    }

abbrev pub decreases-loop-turn : goal.decreases-loop-turn
decreases-loop-turn g l = l.turns - l.turn
