use Rattle.std.proofs.Common.{◌≤◌, ◌*◌, ◌/◌, ap, ◌∙◌, length, sum_by, arith}
use Rattle.std.proofs.lemmas.List.{take_all}
use Rattle.prta_sheet.specs.Sheet.{Task}
use Rattle.prta_sheet.proofs.Whole.{jobs_before_end}
use Rattle.prta_sheet.proofs.count.count_jobs.Goals as goal

pub returns : goal.returns
returns c =
    let past : length c.args.tasks.now ≤ c.loop-task.task-index = omega arith in
    c.loop-task.invariant.0
    ∙ ap (λ tasks. sum_by (λ (task : Task). c.args.hyperperiods * c.args.hyperperiod / task.period) tasks) (take_all c.loop-task.task-index c.args.tasks.now past)
    ∙ jobs_before_end c.args.tasks.now c.requires.offsets c.requires.cycles c.args.hyperperiods c.args.hyperperiod c.requires.hyperperiod
