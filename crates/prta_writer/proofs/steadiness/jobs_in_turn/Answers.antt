use Rattle.std.proofs.Common.{◌≡◌, ◌/◌, length, le_refl, ap, ap₂, ◌∙◌, arith}
use Rattle.prta_sheet.specs.Sheet.{Task}
use Rattle.prta_report.specs.Certificates.{jobs_in_turn}
use Rattle.prta_writer.specs.Report.{most_jobs}
use Rattle.prta_writer.proofs.Checks.{count_within, task_read}
use Rattle.prta_writer.proofs.NumberRows.{few_in_turn}
use Rattle.prta_writer.proofs.steadiness.jobs_in_turn.Goals as goal
use Rattle.prta_writer.proofs.steadiness.jobs_in_turn.Goals.{After-period}

count_is : (c : After-period) → c.hyperperiod.result / c.period.result ≡ jobs_in_turn c.args.sheet.now c.args.task
count_is c =
    let task = task_read c.args.sheet.now.tasks c.tasks-tasks.result.now c.args.task c.index-tasks-task.result c.tasks-tasks.ensures.tasks (omega (arith, ap length c.tasks-tasks.ensures.tasks, c.requires)) c.index-tasks-task.is in
    ap₂ (λ a b. a / b) c.hyperperiod.ensures.hyperperiod (c.period.ensures ∙ ap (λ (t : Task). t.period) task)

pub returns-clause-few : goal.returns-clause-few
returns-clause-few c = omega (arith, count_is c, few_in_turn c.args.sheet.now c.args.task c.tasks-tasks.ensures.accepted c.requires)

pub returns-clause-most : goal.returns-clause-most
returns-clause-most c = omega (arith, count_is c, few_in_turn c.args.sheet.now c.args.task c.tasks-tasks.ensures.accepted c.requires, count_within c.args.sheet.now c.args.task (most_jobs c.args.sheet.now) c.requires (le_refl (most_jobs c.args.sheet.now)))
