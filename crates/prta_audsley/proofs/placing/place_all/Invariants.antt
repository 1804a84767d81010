-- the last places of the order are filled as the greedy fills them
use Rattle.std.proofs.Common.{length, vec_len}
use Rattle.prta_backlog.specs.Fitting.{FitsCap}
use Rattle.prta_audsley.specs.Passing.{task_passes}
use Rattle.prta_audsley.proofs.LowestPlaces.{IsPlacing}
use Rattle.prta_audsley.proofs.placing.place_all.Given as goal

abbrev pub invariant-loop-placed : goal.invariant-loop-placed
invariant-loop-placed g l =
    FitsCap l.sheet.settings.cap (g.C.Curve.cells l.bench.main) (g.C.Curve.cells l.bench.spare) (g.C.Curve.cells l.bench.kept) (vec_len l.bench.cells) (vec_len l.bench.tail) (vec_len l.bench.room)
    × IsPlacing (task_passes l.dir l.sheet) (length l.sheet.tasks) l.placed l.unplaced l.order
