use Rattle.std.proofs.Common.{◌≡◌, ℕ, ◌+◌, ◌-◌, ◌≤◌, ◌⊎◌, false, Bool, get_or, refl, ap, sym, subst, ◌∙◌, arith, inl, inr}
use Rattle.prta_sheet.specs.Job.{Job}
use Rattle.prta_sheet.specs.Assignment.{Timed}
use Rattle.prta_jobs.specs.TaskSet.{holds}
use Rattle.prta_ticksim.specs.Times.{job_at}
use Rattle.prta_ticksim.proofs.TimedJobs.{read_is}
use Rattle.prta_ticksim.proofs.BacklogSteps.{IsDelayedSoFar, delayed_with, delayed_without, delayed_whole}
use Rattle.prta_ticksim.proofs.backlog.delayed.Goals as goal
use Rattle.prta_ticksim.proofs.backlog.delayed.Goals.{then-holds+then-from-job+then-job-from, else-holds, else-holds-via-then-holds+then-from-job+else-job-from, else-holds-via-then-holds+else-from-job, else-holds-via-else-holds}

pub loop-k-preserved : goal.loop-k-preserved
loop-k-preserved c =
    let job : Job = job_at c.args.jobs.now c.loop-k.k in
    let time : ℕ = get_or c.args.times.now c.loop-k.k 0 in
    let level : Timed → Bool = λ e. holds c.args.above e.job.task in
    let same : c.index-jobs-k.result ≡ job = read_is c.args.jobs.now c.args.jobs.now c.loop-k.k _ refl c.loop-k-test.true c.index-jobs-k.is in
    let release : c.job.inside.release ≡ job.release = ap (λ (job : Job). job.release) (c.job.view_is ∙ same) in
    let member : c.holds.result ≡ holds c.args.above job.task = c.holds.ensures.held ∙ ap (λ (job : Job). holds c.args.above job.task) (c.job.view_is ∙ same) in
    let Next : ℕ → Type 0 = IsDelayedSoFar c.args.jobs.now c.args.times.now level c.args.from c.args.backlog (c.loop-k.k + 1) in
    let without : (holds c.args.above job.task ≡ false) ⊎ ((job.release ≤ c.args.from) ⊎ (c.loop-k.ticks ≤ job.release - c.args.from)) → Next c.loop-k.ticks =
    delayed_without c.args.jobs.now c.args.times.now c.requires.one_each level c.requires.jobs c.requires.times c.args.from c.args.backlog c.loop-k.k c.loop-k.ticks c.loop-k-test.true c.loop-k.invariant in
    elim c.if-holds.branch [
      | then-holds+then-from-job+then-job-from w ↦
          subst Next (sym w.ticks-is)
          (delayed_with c.args.jobs.now c.args.times.now c.requires.one_each level c.requires.jobs c.requires.times c.args.from c.args.backlog c.loop-k.k c.loop-k.ticks c.loop-k-test.true c.loop-k.invariant
          (sym member ∙ w.if-holds.true) (omega arith) (omega arith))
      | else-holds w ↦
          subst Next (sym w.ticks-is)
          (without (elim w.else-holds.branch [
            | else-holds-via-then-holds+then-from-job+else-job-from v ↦ inr (inr (omega arith))
            | else-holds-via-then-holds+else-from-job v ↦ inr (inl (omega arith))
            | else-holds-via-else-holds v ↦ inl (sym member ∙ v.if-holds.false)
          ]))
    ]

pub returns-clause-value : goal.returns-clause-value
returns-clause-value c =
    delayed_whole c.args.jobs.now c.args.times.now c.requires.one_each _ c.requires.jobs c.requires.times c.args.from c.args.backlog c.loop-k.k c.loop-k.ticks c.loop-k-test.false c.loop-k.invariant
