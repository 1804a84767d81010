use Rattle.std.proofs.Common.{◌≡◌, ℕ, ◌<◌, ◌≤◌, not, length, get_or, sym, ap, ap₂, ◌∙◌, arith}
use Rattle.std.proofs.lemmas.List.{get_or_default}
use Rattle.prta_mass.specs.Table.{Table}
use Rattle.prta_sheet.specs.Sheet.{Task, task_at, table_in}
use Rattle.prta_sheet.specs.Job.{Job, table_of}
use Rattle.prta_ticksim.specs.Times.{timed_jobs, job_at}
use Rattle.prta_ticksim.specs.Start.{has_time, is_foreign}
use Rattle.prta_ticksim.proofs.Positions.{position_here, position_nowhere}
use Rattle.prta_ticksim.proofs.TimedJobs.{no_timed, timed_get, length-timed}
use Rattle.prta_ticksim.proofs.starting.first_foreign.Goals as goal

pub table-requires : goal.table-requires
table-requires c =
    let low : c.loop-i.i < length c.args.jobs.now = omega arith in
    let same : c.job.inside.task ≡ (job_at c.args.jobs.now c.loop-i.i).task = ap (λ (job : Job). job.task) (c.job.view_is ∙ c.index-jobs-i.is ∙ get_or_default c.args.jobs.now c.loop-i.i _ _ low) in
    let within : c.job.inside.task < length c.args.tasks.now = omega (arith, same, c.requires.tasks c.loop-i.i no_timed.job low) in
    let read : c.index-tasks-job.result ≡ task_at c.args.tasks.now c.job.inside.task = c.index-tasks-job.is ∙ get_or_default c.args.tasks.now c.job.inside.task _ _ within in
    let some : 1 ≤ length (task_at c.args.tasks.now c.job.inside.task).cycle = c.requires.cycles c.job.inside.task _ within in
    rw read some

pub returns-then-not-has_time : goal.returns-then-not-has_time
returns-then-not-has_time c =
    let many : length (timed_jobs c.args.jobs.now c.args.times.now) ≡ length c.args.jobs.now = length-timed c.args.jobs.now c.args.times.now c.requires.each in
    let low : c.loop-i.i < length c.args.jobs.now = omega arith in
    let own : Job = job_at c.args.jobs.now c.loop-i.i in
    let time = get_or c.args.times.now c.loop-i.i 0 in
    let same : c.job.inside.task ≡ own.task = ap (λ (job : Job). job.task) (c.job.view_is ∙ c.index-jobs-i.is ∙ get_or_default c.args.jobs.now c.loop-i.i _ _ low) in
    let within : c.job.inside.task < length c.args.tasks.now = omega (arith, same, c.requires.tasks c.loop-i.i no_timed.job low) in
    let number : c.job.inside.number ≡ own.number = ap (λ (job : Job). job.number) (c.job.view_is ∙ c.index-jobs-i.is ∙ get_or_default c.args.jobs.now c.loop-i.i _ _ low) in
    let table : c.table.result.now ≡ table_of c.args.tasks.now own =
    c.table.ensures
    ∙ ap (λ (task : Task). table_in task c.job.inside.number) (c.index-tasks-job.is ∙ get_or_default c.args.tasks.now c.job.inside.task _ _ within)
    ∙ ap₂ (λ (k n : ℕ). table_in (task_at c.args.tasks.now k) n) same number in
    sym (position_here (is_foreign c.args.tasks.now) (timed_jobs c.args.jobs.now c.args.times.now) c.loop-i.i no_timed (omega arith)
    (ap (is_foreign c.args.tasks.now) (timed_get c.args.jobs.now c.args.times.now c.requires.each c.loop-i.i no_timed low) ∙ ap not (ap (λ (table : Table). has_time table time) (sym table) ∙ sym c.has_time.ensures ∙ c.if-not-has_time.true))
    (λ k before. ap (is_foreign c.args.tasks.now) (timed_get c.args.jobs.now c.args.times.now c.requires.each k no_timed (omega arith)) ∙ c.loop-i.invariant k before))

pub returns : goal.returns
returns c =
    let many : length (timed_jobs c.args.jobs.now c.args.times.now) ≡ length c.args.jobs.now = length-timed c.args.jobs.now c.args.times.now c.requires.each in
    sym (position_nowhere (is_foreign c.args.tasks.now) (timed_jobs c.args.jobs.now c.args.times.now) no_timed
    (λ k low. ap (is_foreign c.args.tasks.now) (timed_get c.args.jobs.now c.args.times.now c.requires.each k no_timed (omega arith)) ∙ c.loop-i.invariant k (omega arith)))
