use Rattle.std.proofs.Common.{◌≡◌, ◌<◌, ◌∙◌, None, length, sym, ap, subst, List, All, arith}
use Rattle.prta_sheet.specs.Job.{Job, jobs_before, analysed_jobs}
use Rattle.prta_ticksim.specs.Serving.{AreApart}
use Rattle.prta_ticksim.specs.Start.{first_foreign}
use Rattle.prta_ticksim.proofs.Analysed.{apart_in_order}
use Rattle.prta_ticksim.proofs.Times.{times_positive}
use Rattle.prta_ticksim.proofs.starting.checked_jobs.Goals as goal

pub first_foreign-requires-clause-tasks : goal.first_foreign-requires-clause-tasks
first_foreign-requires-clause-tasks c = rw (c.list.ensures, c.tasks.ensures.tasks, c.in-Ok.ensures) (λ i d low. (c.jobs_are_before.ensures c.args.sheet.now.tasks c.horizon_of.result i d low).task)

pub first_foreign-requires-clause-cycles : goal.first_foreign-requires-clause-cycles
first_foreign-requires-clause-cycles c = rw c.tasks.ensures.tasks (λ i d low. (c.horizon_of.ensures.accepted.tasks i d low).cycle_low)

pub returns-clause-some : goal.returns-clause-some
returns-clause-some c =
    let found = rw (c.tasks.ensures.tasks, c.list.ensures) at c.first_foreign.ensures in
    let listed : c.in-Ok.jobs ≡ analysed_jobs c.args.sheet.now = c.in-Ok.ensures ∙ ap (jobs_before c.args.sheet.now.tasks) c.horizon_of.ensures.value in
    let each : length c.args.times.now ≡ length c.in-Ok.jobs = omega (arith, ap length listed, c.all_jobs-want.ensures, c.if-want-got.false) in
    let are_tasks : All (λ (job : Job). job.task < length c.args.sheet.now.tasks) c.in-Ok.jobs = rw c.in-Ok.ensures (λ i d low. (c.jobs_are_before.ensures c.args.sheet.now.tasks c.horizon_of.result i d low).task) in
    let none : first_foreign c.args.sheet.now.tasks c.in-Ok.jobs c.args.times.now ≡ None = sym {b = first_foreign c.args.sheet.now.tasks c.in-Ok.jobs c.args.times.now} found ∙ c.in_default.is in
    times_positive _ c.args.sheet.now.tasks c.in-Ok.jobs c.args.times.now each c.horizon_of.ensures.accepted.tasks are_tasks none

pub returns-clause-apart : goal.returns-clause-apart
returns-clause-apart c =
    let Apart : List Job → Type 0 = λ jobs. AreApart c.args.order.now jobs in
    subst Apart (sym c.in-Ok.ensures) (apart_in_order c.orders_have_places.ensures c.jobs_are_before.ensures c.args.sheet.now.tasks c.args.order.now c.requires c.horizon_of.result)
