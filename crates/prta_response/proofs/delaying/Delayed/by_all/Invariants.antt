-- the cells are delayed by the first jobs, and the others are to come
use Rattle.std.proofs.Common.{◌≡◌, ◌+◌, ◌-◌, ◌≤◌, length}
use Rattle.prta_mass.specs.Chances.{IsChances}
use Rattle.prta_sheet.specs.Job.{table_of}
use Rattle.prta_backlog.specs.Level.{delaying}
use Rattle.prta_backlog.specs.Pass.{level_of}
use Rattle.prta_response.specs.Coming.{to_come, IsComing}
use Rattle.prta_response.proofs.DelaySteps.{AreDelayedFirst}
use Rattle.prta_response.proofs.delaying.Delayed.by_all.Given as goal

abbrev pub invariant-loop-job : goal.invariant-loop-job
invariant-loop-job g l =
    let all = delaying l.sheet.tasks (level_of l.fn.higher l.self.task) l.self.release (length l.initial.cells - 1) in
    record {
      steps : AreDelayedFirst l.self.dir l.self.task l.self.number (table_of l.sheet.tasks) l.self.release all (to_come l.sheet.tasks l.coming)
          l.initial.cells (g.N.Notes.noted l.initial.notes) (g.N.Notes.room l.initial.notes) l.cells (g.N.Notes.noted l.notes) (g.N.Notes.room l.notes) l.made;
      coming : IsComing l.sheet.tasks l.coming;
      since : l.self.release ≤ l.coming.at;
      end : l.coming.end ≡ l.self.release + (length l.initial.cells - 1);
      chances : IsChances l.cells;
    }

abbrev pub decreases-loop-job : goal.decreases-loop-job
decreases-loop-job g l = length (to_come l.sheet.tasks l.coming)
