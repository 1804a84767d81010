use Rattle.std.proofs.Common.{◌≤◌, List, length, sum_by, ap, ◌∙◌, arith}
use Rattle.std.proofs.lemmas.List.{take_all}
use Rattle.prta_sheet.specs.Sheet.{Task}
use Rattle.prta_sheet.specs.Counts.{releases}
use Rattle.prta_jobs.proofs.Counting.{count_of_jobs}
use Rattle.prta_jobs.proofs.releases.count_before.Goals as goal

pub returns : goal.returns
returns c =
    let past : length c.args.tasks.now ≤ c.loop-task.task-index = omega arith in
    c.loop-task.invariant.0
    ∙ ap (λ (tasks : List Task). sum_by (λ task. releases task c.args.time) tasks) (take_all c.loop-task.task-index c.args.tasks.now past)
    ∙ count_of_jobs c.releases_before.ensures c.args.tasks.now c.args.time
