-- what is found of the jobs so far
use Rattle.std.proofs.Common.{◌≡◌, ◌+◌, ◌≤◌, length}
use Rattle.prta_sheet.specs.Job.{table_of}
use Rattle.prta_backlog.specs.Level.{delaying}
use Rattle.prta_backlog.specs.Pass.{level_of}
use Rattle.prta_response.specs.Coming.{to_come, IsComing}
use Rattle.prta_response.proofs.Reach.{Reaches}
use Rattle.prta_response.proofs.meeting.reach_of.Given as goal

abbrev pub invariant-loop-next : goal.invariant-loop-next
invariant-loop-next l =
    let all = delaying l.sheet.tasks (level_of l.fn.higher l.job.task) l.job.release l.deadline in
    record {
      found : Reaches (table_of l.sheet.tasks) l.job.release l.deadline all (to_come l.sheet.tasks l.coming) l.sum l.reach;
      coming : IsComing l.sheet.tasks l.coming;
      since : l.job.release ≤ l.coming.at;
      end : l.coming.end ≡ l.job.release + l.deadline;
      summed : l.sum ≤ l.deadline;
      within : l.reach ≤ l.deadline;
    }

abbrev pub decreases-loop-next : goal.decreases-loop-next
decreases-loop-next l = length (to_come l.sheet.tasks l.coming)
