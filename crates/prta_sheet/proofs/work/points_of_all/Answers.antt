use Rattle.std.proofs.Common.{◌/◌, ◌≤◌, length, sum_by, ap, ◌∙◌, arith}
use Rattle.std.proofs.lemmas.List.{take_all}
use Rattle.prta_sheet.specs.Sheet.{Task}
use Rattle.prta_sheet.specs.Work.{points_of_first}
use Rattle.prta_sheet.proofs.WorkSums.{all_points}
use Rattle.prta_sheet.proofs.work.points_of_all.Goals as goal

pub returns-clause-value : goal.returns-clause-value
returns-clause-value c =
    let past : length c.args.tasks.now ≤ c.loop-task.task-index = omega arith in
    c.loop-task.invariant.0
    ∙ ap (λ tasks. sum_by (λ (task : Task). points_of_first task (c.args.horizon / task.period)) tasks) (take_all c.loop-task.task-index c.args.tasks.now past)
    ∙ all_points c.args.tasks.now c.requires.small c.args.horizon c.requires.whole
