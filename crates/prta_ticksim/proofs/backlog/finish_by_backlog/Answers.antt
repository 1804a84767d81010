use Rattle.std.proofs.Common.{◌≡◌, ℕ, ◌<◌, ◌≤◌, List, Contains, length, ap, ap₂, sym, subst, ◌∙◌, arith}
use Rattle.std.proofs.lemmas.List.Elements.{All-weaker, Contains-get_or}
use Rattle.prta_sheet.specs.Sheet.{Task}
use Rattle.prta_sheet.specs.Job.{Job}
use Rattle.prta_sheet.specs.Machine.{place, IsFinish}
use Rattle.prta_jobs.specs.TaskSet.{holds}
use Rattle.prta_jobs.specs.Backlog.{finish_by_backlog}
use Rattle.prta_ticksim.specs.Times.{timed_jobs, job_at, IsJobList, IsTime}
use Rattle.prta_ticksim.specs.ScheduleToBacklog.{IsListed}
use Rattle.prta_ticksim.proofs.Places.{place_within}
use Rattle.prta_ticksim.proofs.JobList.{is_job_list, of_tasks}
use Rattle.prta_ticksim.proofs.TimedJobs.{read_is, jobs_of_timed, All-timed}
use Rattle.prta_ticksim.proofs.LevelFound.{finish_found}
use Rattle.prta_ticksim.proofs.ScheduleLaw.{finishes}
use Rattle.prta_ticksim.proofs.backlog.finish_by_backlog.Goals as goal

pub prove-unreachable-requires : goal.prove-unreachable-requires
prove-unreachable-requires c =
    let same : c.index-jobs-i.result ≡ job_at c.args.jobs.now c.args.i = read_is c.args.jobs.now c.list-jobs.result.now c.args.i _ c.list-jobs.ensures c.requires.job c.index-jobs-i.is in
    omega (
      arith,
      ap (λ (tasks : List Task). length tasks) c.tasks-tasks.ensures.tasks,
      ap (λ (job : Job). job.task) (c.own.view_is ∙ same),
      of_tasks c.jobs_are_before.ensures c.args.sheet.now.tasks c.args.jobs.now c.requires.jobs c.args.i (record { task = 0; number = 0; release = 0 }) c.requires.job,
    )

pub backlog_at-backlog-requires-clause-jobs : goal.backlog_at-backlog-requires-clause-jobs
backlog_at-backlog-requires-clause-jobs c = subst IsJobList (sym c.list-jobs.ensures) (is_job_list c.jobs_are_before.ensures c.args.sheet.now.tasks c.args.jobs.now c.requires.jobs c.tasks-tasks.ensures.accepted.few)

pub delayed-requires-clause-jobs : goal.delayed-requires-clause-jobs
delayed-requires-clause-jobs c = subst IsJobList (sym c.list-jobs.ensures) (is_job_list c.jobs_are_before.ensures c.args.sheet.now.tasks c.args.jobs.now c.requires.jobs c.tasks-tasks.ensures.accepted.few)

pub overflow_add-result : goal.overflow_add-result
overflow_add-result c =
    let listed : IsJobList c.args.jobs.now = is_job_list c.jobs_are_before.ensures c.args.sheet.now.tasks c.args.jobs.now c.requires.jobs c.tasks-tasks.ensures.accepted.few in
    let same : c.index-jobs-i.result ≡ job_at c.args.jobs.now c.args.i = read_is c.args.jobs.now c.list-jobs.result.now c.args.i _ c.list-jobs.ensures c.requires.job c.index-jobs-i.is in
    omega (
      arith,
      ap (λ (jobs : List Job). length jobs) c.list-jobs.ensures,
      ap (λ (job : Job). job.release) (c.own.view_is ∙ same),
      listed.few,
      listed.releases c.args.i (record { task = 0; number = 0; release = 0 }) c.requires.job,
      c.delayed.ensures.bound,
    )

pub returns-clause-value : goal.returns-clause-value
returns-clause-value c =
    let same : c.index-jobs-i.result ≡ job_at c.args.jobs.now c.args.i = read_is c.args.jobs.now c.list-jobs.result.now c.args.i _ c.list-jobs.ensures c.requires.job c.index-jobs-i.is in
    let own : Job = record { task = c.own.inside.task; number = c.own.inside.number; release = c.own.inside.release } in
    let within : place c.args.order.now own.task < length c.args.order.now =
    place_within c.orders_have_places.ensures (length c.args.sheet.now.tasks) c.args.order.now c.requires.order own.task (omega (arith, ap (λ (tasks : List Task). length tasks) c.tasks-tasks.ensures.tasks, c.if-prove.false)) in
    finish_found c.args.order.now (timed_jobs c.list-jobs.result.now c.args.times.now) own within (holds c.above-above.result) (holds c.with.result) c.above-above.ensures c.with.ensures.members
    c.backlog_at-backlog.result c.delayed.result c.backlog_at-backlog.ensures.value c.delayed.ensures.value
    ∙ ap₂ (λ (jobs : List Job) (job : Job). finish_by_backlog c.args.order.now (timed_jobs jobs c.args.times.now) job) c.list-jobs.ensures (c.own.view_is ∙ same)

pub returns-clause-finish : goal.returns-clause-finish
returns-clause-finish c =
    let times : List ℕ = c.args.times.now in
    let job : Job = job_at c.args.jobs.now c.args.i in
    let listed : IsListed c.args.sheet.now.tasks c.requires.jobs.0 c.args.order.now (timed_jobs c.args.jobs.now times) job =
    record {
      whole = jobs_of_timed c.args.jobs.now times c.requires.one_each ∙ c.requires.jobs.2;
      take_time = All-timed c.args.jobs.now times c.requires.one_each (λ time. 1 ≤ time) (All-weaker IsTime (λ time. 1 ≤ time) (λ time is. is.0) times c.requires.times);
      permutation = c.requires.order;
      listed = subst (λ (jobs : List Job). Contains jobs job) c.requires.jobs.2 (Contains-get_or c.args.jobs.now c.args.i _ c.requires.job);
    } in
    subst (IsFinish c.args.order.now (timed_jobs c.args.jobs.now times) job) (sym (returns-clause-value c)) (finishes c.orders_have_places.ensures c.jobs_are_before.ensures _ _ _ _ _ listed)
