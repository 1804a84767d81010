use Rattle.std.proofs.Common.{◌≡◌, ℕ, ◌<◌, ◌++◌, true, List, length, ap, sym, ◌∙◌, arith}
use Rattle.std.proofs.lemmas.Bool.{lt-ltb}
use Rattle.prta_sheet.specs.Job.{Job, released_at}
use Rattle.prta_jobs.specs.TaskSet.{holds}
use Rattle.prta_jobs.proofs.JobLists.{none_until, jobs_after}
use Rattle.prta_jobs.proofs.jobs.list_before.Goals as goal

pub returns-then-at-t : goal.returns-then-at-t
returns-then-at-t c =
    let whole : (k : ℕ) → k < length c.args.tasks.now → holds c.below-level.result k ≡ true = λ k low. c.below-level.ensures.members k ∙ lt-ltb k _ low in
    c.loop-since.invariant.0 ∙ sym (none_until c.args.tasks.now (holds c.below-level.result) whole c.loop-since.since c.least_release-at.result c.args.t c.least_release-at.ensures.least (omega arith) (omega arith))

pub loop-since-preserved : goal.loop-since-preserved
loop-since-preserved c =
    let whole : (k : ℕ) → k < length c.args.tasks.now → holds c.below-level.result k ≡ true = λ k low. c.below-level.ensures.members k ∙ lt-ltb k _ low in (
      c.in_ok-push_released.ensures
          ∙ ap (λ (jobs : List Job). jobs ++ released_at 0 c.args.tasks.now c.least_release-at.result) c.loop-since.invariant.0
          ∙ jobs_after c.args.tasks.now (holds c.below-level.result) whole c.loop-since.since c.least_release-at.result c.least_release-at.ensures.least,
      omega arith,
    )
