-- the pass follows its level run, and no own job so far fails
use Rattle.std.proofs.Common.{◌-◌, ◌≡◌, ◌≤◌, vec_len}
use Rattle.prta_sheet.specs.Sheet.{horizon}
use Rattle.prta_backlog.specs.Fitting.{FitsCap}
use Rattle.prta_backlog.specs.Pass.{level_of, after_last}
use Rattle.prta_dual.specs.Failing.{failing_number}
use Rattle.prta_dual.proofs.Passing.{Follows}
use Rattle.prta_dual.proofs.FirstFailing.{failing_since}
use Rattle.prta_dual.proofs.failing.first_failing_below.Given as goal

abbrev pub invariant-loop-number : goal.invariant-loop-number
invariant-loop-number g l = record {
  follows : Follows l.dir l.sheet l.higher l.task l.pass (g.C.Curve.cells l.bench.main) l.number;
  within : l.number ≤ l.count;
  passing : failing_number l.dir l.sheet (level_of l.higher l.task) ≡ failing_since l.dir l.sheet (level_of l.higher l.task) l.number;
  others : l.bench ≡ record l.fn.bench { main = l.bench.main; cells = l.bench.cells; tail = l.bench.tail; room = l.bench.room };
  fits : FitsCap l.sheet.settings.cap (g.C.Curve.cells l.bench.main) (g.C.Curve.cells l.bench.spare) (g.C.Curve.cells l.bench.kept)
      (vec_len l.bench.cells) (vec_len l.bench.tail) (vec_len l.bench.room);
}

abbrev pub decreases-loop-number : goal.decreases-loop-number
decreases-loop-number g l = horizon l.sheet - after_last l.pass.last
