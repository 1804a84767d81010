-- the sheet passes with the lower end and not with the upper one, which come nearer
use Rattle.std.proofs.Common.{◌≡◌, ◌<◌, ◌≤◌, ◌-◌, true, false, vec_len}
use Rattle.prta_sheet.specs.Added.{IsSheetWithAdded}
use Rattle.prta_backlog.specs.Fitting.{FitsCap}
use Rattle.prta_slack.specs.Passing.{passes_with}
use Rattle.prta_slack.proofs.finding.last_passing.Given as goal

abbrev pub invariant-loop-failing : goal.invariant-loop-failing
invariant-loop-failing g l = record {
  copy : IsSheetWithAdded l.sheet l.task l.copy;
  order : l.passing < l.failing;
  within : l.failing ≤ l.limit;
  passes : passes_with l.sheet l.task l.passing ≡ true;
  fails : passes_with l.sheet l.task l.failing ≡ false;
  fits : FitsCap l.sheet.settings.cap (g.C.Curve.cells l.bench.main) (g.C.Curve.cells l.bench.spare) (g.C.Curve.cells l.bench.kept)
      (vec_len l.bench.cells) (vec_len l.bench.tail) (vec_len l.bench.room);
}

abbrev pub decreases-loop-failing : goal.decreases-loop-failing
decreases-loop-failing g l = l.failing - l.passing
