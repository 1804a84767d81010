-- the cells are right up to the reach, which suffices for the delays to come
use Rattle.std.proofs.Common.{◌≡◌, ◌+◌, ◌≤◌, length}
use Rattle.prta_mass.specs.Chances.{IsChances}
use Rattle.prta_sheet.specs.Job.{table_of}
use Rattle.prta_backlog.specs.Level.{delaying}
use Rattle.prta_backlog.specs.Pass.{level_of}
use Rattle.prta_response.specs.Response.{all_delayed}
use Rattle.prta_response.specs.Coming.{to_come, IsComing}
use Rattle.prta_response.specs.Reach.{Suffices}
use Rattle.prta_response.proofs.Reach.{AreRight}
use Rattle.prta_response.proofs.meeting.delay_within.Given as goal

abbrev pub invariant-loop-next : goal.invariant-loop-next
invariant-loop-next g l =
    let all = delaying l.sheet.tasks (level_of l.fn.higher l.job.task) l.job.release l.end in
    record {
      right : AreRight l.job.dir (table_of l.sheet.tasks) l.job.release l.reach (to_come l.sheet.tasks l.coming)
          (all_delayed l.job.dir (table_of l.sheet.tasks) l.job.release all l.initial.cells) l.cells;
      suffices : Suffices (table_of l.sheet.tasks) l.job.release l.end (to_come l.sheet.tasks l.coming) l.reach;
      coming : IsComing l.sheet.tasks l.coming;
      since : l.job.release ≤ l.coming.at;
      end : l.coming.end ≡ l.job.release + l.end;
      within : l.reach ≤ l.end;
      chances : IsChances l.cells;
    }

abbrev pub decreases-loop-next : goal.decreases-loop-next
decreases-loop-next g l = length (to_come l.sheet.tasks l.coming)
