use Rattle.std.proofs.Common.{◌≡◌, Vec, Global, ap, sym, ◌∙◌}
use Rattle.std.proofs.lemmas.List.{get_or_default}
use Rattle.prta_sheet.specs.Sheet.{Task, task_at}
use Rattle.prta_sheet.specs.Job.{is_release}
use Rattle.prta_jobs.specs.declared.job.Job.{Job}
use Rattle.prta_jobs.proofs.JobLists.{with_job, without_job}
use Rattle.prta_jobs.proofs.jobs.push_released.Goals as goal
use Rattle.prta_jobs.proofs.jobs.push_released.Goals.{then-is_release+in_ok-push, else-is_release}

pub loop-i-preserved : goal.loop-i-preserved
loop-i-preserved c =
    let same : c.index-tasks-i.result ≡ task_at c.args.tasks.now c.loop-i.i = c.index-tasks-i.is ∙ get_or_default c.args.tasks.now c.loop-i.i _ _ c.loop-i-test.true in
    elim c.if-is_release.branch [
      | then-is_release+in_ok-push w ↦
          with_job c.args.tasks.now c.args.at c.loop-i.i c.loop-i-test.true _ _ _ _ c.loop-i.invariant (ap (λ (jobs : Vec Job Global). jobs.items) w.jobs-is ∙ w.in_ok-push.ensures.items) w.job_at.ensures
      | else-is_release w ↦
          ap (λ (jobs : Vec Job Global). jobs.items) w.jobs-is
          ∙ without_job c.args.tasks.now c.args.at c.loop-i.i c.loop-i-test.true _ _ c.loop-i.invariant (ap (λ (task : Task). is_release task c.args.at) (sym same) ∙ sym c.is_release.ensures ∙ w.if-is_release.false)
    ]
