use Rattle.std.proofs.Common.{◌≡◌, ℕ, ◌+◌, ◌-◌, ◌<◌, ◌⊎◌, false, Bool, get_or, refl, ap, sym, subst, ◌∙◌, arith, inl, inr}
use Rattle.prta_sheet.specs.Job.{Job}
use Rattle.prta_sheet.specs.Assignment.{Timed}
use Rattle.prta_jobs.specs.TaskSet.{holds}
use Rattle.prta_ticksim.specs.Times.{job_at}
use Rattle.prta_ticksim.proofs.TimedJobs.{read_is}
use Rattle.prta_ticksim.proofs.BacklogSteps.{IsBacklogSoFar, no_backlog, backlog_with, backlog_without, backlog_whole}
use Rattle.prta_ticksim.proofs.backlog.backlog_at.Goals as goal
use Rattle.prta_ticksim.proofs.backlog.backlog_at.Goals.{then-holds+then-job-time, else-holds, else-holds-via-then-holds+else-job-time, else-holds-via-else-holds}

pub loop-k-init : goal.loop-k-init
loop-k-init c = no_backlog _ _ _ _

pub overflow_sub-passed : goal.overflow_sub-passed
overflow_sub-passed c =
    let same : c.index-jobs-k.result ≡ job_at c.args.jobs.now c.loop-k.k = read_is c.args.jobs.now c.args.jobs.now c.loop-k.k _ refl c.loop-k-test.true c.index-jobs-k.is in
    omega (arith, c.loop-k.invariant.in_order c.loop-k.k (omega arith) c.loop-k-test.true, ap (λ (job : Job). job.release) (c.job.view_is ∙ same))

pub overflow_add-backlog : goal.overflow_add-backlog
overflow_add-backlog c = omega (arith, c.loop-k.invariant.bound, c.requires.jobs.few)

pub overflow_sub-time : goal.overflow_sub-time
overflow_sub-time c = c.loop-k.invariant.reached

pub loop-k-preserved : goal.loop-k-preserved
loop-k-preserved c =
    let job : Job = job_at c.args.jobs.now c.loop-k.k in
    let time : ℕ = get_or c.args.times.now c.loop-k.k 0 in
    let level : Timed → Bool = λ e. holds c.args.level e.job.task in
    let same : c.index-jobs-k.result ≡ job = read_is c.args.jobs.now c.args.jobs.now c.loop-k.k _ refl c.loop-k-test.true c.index-jobs-k.is in
    let release : c.job.inside.release ≡ job.release = ap (λ (job : Job). job.release) (c.job.view_is ∙ same) in
    let member : c.holds.result ≡ holds c.args.level job.task = c.holds.ensures.held ∙ ap (λ (job : Job). holds c.args.level job.task) (c.job.view_is ∙ same) in
    let Next : ℕ → ℕ → Type 0 = IsBacklogSoFar c.args.jobs.now c.args.times.now level c.args.time (c.loop-k.k + 1) in
    let without : (holds c.args.level job.task ≡ false) ⊎ (c.args.time < job.release) → Next c.loop-k.backlog c.loop-k.since =
    backlog_without c.args.jobs.now c.args.times.now c.requires.one_each level c.requires.jobs c.requires.times c.args.time c.loop-k.k c.loop-k.backlog c.loop-k.since c.loop-k-test.true c.loop-k.invariant in
    elim c.if-holds.branch [
      | then-holds+then-job-time w ↦
          let risen : c.if-holds.backlog ≡ (c.loop-k.backlog - (job.release - c.loop-k.since)) + time = w.backlog-is ∙ omega arith in
          subst (λ since. Next c.if-holds.backlog since) (sym (w.since-is ∙ release))
          (subst (λ backlog. Next backlog job.release) (sym risen)
          (backlog_with c.args.jobs.now c.args.times.now c.requires.one_each level c.requires.jobs c.requires.times c.args.time c.loop-k.k c.loop-k.backlog c.loop-k.since c.loop-k-test.true c.loop-k.invariant
          (sym member ∙ w.if-holds.true) (omega arith)))
      | else-holds w ↦
          subst (λ since. Next c.if-holds.backlog since) (sym w.since-is)
          (subst (λ backlog. Next backlog c.loop-k.since) (sym w.backlog-is)
          (without (elim w.else-holds.branch [
            | else-holds-via-then-holds+else-job-time v ↦ inr (omega arith)
            | else-holds-via-else-holds v ↦ inl (sym member ∙ v.if-holds.false)
          ])))
    ]

pub returns-clause-value : goal.returns-clause-value
returns-clause-value c =
    omega (
      arith,
      backlog_whole c.args.jobs.now c.args.times.now c.requires.one_each (λ e. holds c.args.level e.job.task) c.requires.jobs c.requires.times c.args.time c.loop-k.k c.loop-k.backlog c.loop-k.since c.loop-k-test.false c.loop-k.invariant,
    )

pub returns-clause-bound : goal.returns-clause-bound
returns-clause-bound c = omega (arith, c.loop-k.invariant.bound)
