-- None waits at first.
use Rattle.std.proofs.Common.{◌-◌, ◌++◌, ap}
use Rattle.prta_sheet.specs.Job.{released_at}
use Rattle.prta_jobs.specs.TaskSet.{holds}
use Rattle.prta_backlog.specs.Level.{delaying}
use Rattle.prta_backlog.specs.Pass.{level_of}
use Rattle.prta_response.proofs.Walk.{nobody_waits}
use Rattle.prta_response.proofs.coming.Coming.new.Goals as goal

pub returns-clause-jobs : goal.returns-clause-jobs
returns-clause-jobs c =
    ap (λ js. js ++ delaying c.args.sheet.now.tasks (level_of c.args.higher c.args.own) c.args.after (c.args.end - c.args.after))
    (nobody_waits (holds c.empty.result) (released_at 0 c.args.sheet.now.tasks c.args.after) c.empty.ensures.members)
