-- The jobs that delay are among all before the deadline.
use Rattle.std.proofs.Common.{◌≡◌, ℕ, ◌+◌, not, List, length, refl, ap, ◌∙◌, arith}
use Rattle.std.proofs.lemmas.List.{get_or_default}
use Rattle.std.proofs.lemmas.List.Filters.{length-filter_both}
use Rattle.prta_sheet.specs.Sheet.{Task, task_at}
use Rattle.prta_sheet.specs.Job.{Job, nth_job, jobs_before}
use Rattle.prta_backlog.specs.Pass.{level_of}
use Rattle.prta_response.proofs.DelayingJobs.{is_delaying}
use Rattle.prta_response.proofs.tests.number_of.Goals as goal

pub respond-requires-clause-room : goal.respond-requires-clause-room
respond-requires-clause-room g c =
    let tasks : List Task = c.args.sheet.now.tasks in
    let r : ℕ = (nth_job tasks 1 0).release in
    let until : ℕ = r + (task_at tasks 1).deadline in
    let own : c.index-tasks-1.result ≡ task_at tasks 1 =
    c.index-tasks-1.is ∙ get_or_default c.tasks-2.result.now 1 _ _ (omega (arith, ap length c.tasks-2.ensures.tasks, ap length c.tasks.ensures.tasks)) ∙ ap (λ ts. task_at ts 1) c.tasks-2.ensures.tasks in
    let due : c.release.result + c.deadline.result ≡ until = omega (arith, c.release.ensures, c.deadline.ensures, ap (λ (t : Task). t.deadline) own) in
    let listed : length c.list.result.now ≡ length (jobs_before tasks until) = ap length (c.list.ensures ∙ c.in_ok-before.ensures ∙ ap (jobs_before tasks) due) in
    omega (
      arith,
      c.if-spare-list.false,
      c.spare.ensures,
      listed,
      length-filter_both (is_delaying tasks (level_of c.below-higher.result 1) r) (λ (job : Job). not (is_delaying tasks (level_of c.below-higher.result 1) r job)) (λ job. refl) (jobs_before tasks until),
    )
