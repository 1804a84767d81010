-- the pass follows its level run, with all entries and numbers so far
use Rattle.std.proofs.Common.{◌-◌, ◌≡◌, ◌≤◌, vec_len}
use Rattle.prta_sheet.specs.Sheet.{horizon}
use Rattle.prta_backlog.specs.Fitting.{FitsCap}
use Rattle.prta_backlog.specs.Pass.{level_of, after_last}
use Rattle.prta_dual.specs.Entries.{entries_before}
use Rattle.prta_dual.proofs.Passing.{Follows, HaveNoted}
use Rattle.prta_dual.proofs.Writing.{AreWritten}
use Rattle.prta_dual.proofs.analyse.analyse_direction.Given as goal

abbrev pub invariant-loop-number : goal.invariant-loop-number
invariant-loop-number g l = record {
  follows : Follows l.dir l.sheet l.higher l.task l.pass (g.C.Curve.cells l.bench.main) l.number;
  notes : HaveNoted (entries_before l.dir l.sheet (level_of l.higher l.task) (after_last l.pass.last))
      (g.N.Notes.noted l.fn.notes) (g.N.Notes.room l.fn.notes) (g.N.Notes.noted l.notes) (g.N.Notes.room l.notes);
  within : l.number ≤ l.count;
  written : AreWritten l.dir l.sheet (level_of l.higher l.task) l.fn.found l.number l.found;
  others : l.bench ≡ record l.fn.bench { main = l.bench.main; cells = l.bench.cells; tail = l.bench.tail; room = l.bench.room };
  fits : FitsCap l.sheet.settings.cap (g.C.Curve.cells l.bench.main) (g.C.Curve.cells l.bench.spare) (g.C.Curve.cells l.bench.kept)
      (vec_len l.bench.cells) (vec_len l.bench.tail) (vec_len l.bench.room);
}

abbrev pub decreases-loop-number : goal.decreases-loop-number
decreases-loop-number g l = horizon l.sheet - after_last l.pass.last
