use Rattle.std.proofs.Common.{◌≡◌, ◌/◌, ap, sym, ◌∙◌, arith}
use Rattle.std.proofs.lemmas.List.{get_or_default}
use Rattle.prta_sheet.specs.Sheet.{Task, task_at}
use Rattle.prta_sheet.specs.Job.{nth_job}
use Rattle.prta_sheet.specs.Work.{job_work}
use Rattle.prta_sheet.proofs.Below.{sum_below}
use Rattle.prta_sheet.proofs.WorkSums.{task_sum, releases_at_end}
use Rattle.prta_sheet.proofs.work.own_work.Goals as goal

pub returns-clause-value : goal.returns-clause-value
returns-clause-value c =
    let period : c.period.result ≡ (task_at c.args.tasks.now c.args.i).period =
    c.period.ensures ∙ ap (λ (task : Task). task.period) (c.index-tasks-i.is ∙ get_or_default c.args.tasks.now c.args.i _ _ c.requires.task) in
    let past : c.loop-k.k ≡ c.args.horizon / c.period.result = omega arith in
    c.loop-k.invariant.0
    ∙ ap (sum_below (λ k. job_work c.args.tasks.now (nth_job c.args.tasks.now c.args.i k)))
    (past ∙ ap (λ p. c.args.horizon / p) period ∙ sym (releases_at_end c.args.tasks.now c.requires.small c.args.horizon c.args.i c.requires.task c.requires.whole))
    ∙ sym (task_sum c.args.tasks.now (job_work c.args.tasks.now) c.args.i c.args.horizon c.requires.task)
