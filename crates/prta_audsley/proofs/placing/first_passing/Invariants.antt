-- none of the tasks so far passes lowest
use Rattle.std.proofs.Common.{ℕ, ◌<◌, vec_len}
use Rattle.prta_backlog.specs.Fitting.{FitsCap}
use Rattle.prta_audsley.specs.Passing.{task_passes}
use Rattle.prta_audsley.specs.Placing.{Fails}
use Rattle.prta_audsley.proofs.placing.first_passing.Given as goal

abbrev pub invariant-loop-task : goal.invariant-loop-task
invariant-loop-task g l =
    FitsCap l.sheet.settings.cap (g.C.Curve.cells l.bench.main) (g.C.Curve.cells l.bench.spare) (g.C.Curve.cells l.bench.kept) (vec_len l.bench.cells) (vec_len l.bench.tail) (vec_len l.bench.room)
    × ((i : ℕ) → i < l.task → Fails (task_passes l.dir l.sheet) l.unplaced i)
