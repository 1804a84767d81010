-- A list without an end has room for the entries of every analysis, and of every response run.
use Rattle.std.proofs.Common.{◌≡◌, ℕ, zero, suc, ◌+◌, ◌-◌, ◌*◌, ◌^◌, ◌<◌, ◌≤◌, Bool, true, false, cond, not, ◌&&◌, nat_eq, nat_lt, List, [], ◌∷◌, sum_by, length, length-append, arith, mul-le-mul_right}
use Rattle.std.specs.List.{AllByRecursion as Each}
use Rattle.std.proofs.lemmas.List.Sums.{sum_by-cons, length-filter, count_by-le-length}
use Rattle.prta_sheet.specs.Sheet.{Task, Sheet, task_at, hyperperiod, horizon}
use Rattle.prta_sheet.specs.Job.{Job, nth_job, deadline_of, is_release, released_by, released_at, jobs_before, analysed_jobs}
use Rattle.prta_sheet.specs.Counts.{releases, job_count, all_jobs}
use Rattle.prta_sheet.specs.Accepted.{IsTask, IsAccepted}
use Rattle.prta_sheet.specs.Work.{between}
use Rattle.prta_sheet.proofs.Each.{Each-weaker}
use Rattle.prta_sheet.proofs.JobSums.{releases_before}
use Rattle.prta_jobs.specs.Laws.{IsBefore}
use Rattle.prta_jobs.proofs.JobsBefore.{each_before}
use Rattle.prta_resample.proofs.Moving.{largest_below}
use Rattle.prta_backlog.specs.Level.{Level}
use Rattle.prta_backlog.specs.Room.{own_jobs, jobs_between, room_for}
use Rattle.prta_backlog.proofs.Released.{job_at, Each-filter}
use Rattle.prta_response.specs.Response.{delaying_jobs}
use Rattle.prta_dual.specs.Laws.{EntriesAreCountable}
use Rattle.prta_dual.proofs.Stretches.{released_before_end, end_within}

-- ---- the jobs before a time are few

released_few : (i : ℕ) (tasks : List Task) (t : ℕ) → length (released_at i tasks t) ≤ length tasks
released_few i [] t = omega arith
released_few i (task ∷ tasks) t = omega (arith, length-append (released_by i task t) (released_at (i + 1) tasks t), one (is_release task t), released_few (i + 1) tasks t)
  where
    one : (b : Bool) → length (cond b (job_at i task t ∷ []) []) ≤ 1
    one true = omega arith
    one false = omega arith

before_few : (tasks : List Task) (t : ℕ) → length (jobs_before tasks t) ≤ length tasks * t
before_few tasks zero = omega arith
before_few tasks (suc t) =
    omega (arith, length-append (jobs_before tasks t) (released_at 0 tasks t), before_few tasks t, released_few 0 tasks t, more (length tasks) t)
  where
    more : (n t : ℕ) → n * suc t ≡ n * t + n
    more n t = omega arith

sum_most : (f : Job → ℕ) (most : ℕ) (jobs : List Job) → Each (λ job. f job ≤ most) jobs → sum_by f jobs ≤ length jobs * most
sum_most f most [] h = omega arith
sum_most f most (job ∷ jobs) h = omega (arith, sum_by-cons f job jobs, h.0, sum_most f most jobs h.1, more (length jobs) most)
  where
    more : (n m : ℕ) → suc n * m ≡ m + n * m
    more n m = omega arith

module _ (sheet : Sheet) (is : IsAccepted sheet) where
  -- the jobs of a task are among all jobs
  count_within : (task : ℕ) → job_count sheet task ≤ all_jobs sheet
  count_within task = omega (arith, length-filter (λ (job : Job). nat_eq job.task task) (analysed_jobs sheet), count_by-le-length (λ (job : Job). nat_eq job.task task) (analysed_jobs sheet))

  short : horizon sheet ≤ 64 * 1000000
  short = within sheet.settings.hyperperiods (hyperperiod sheet.tasks) is.settings.hyperperiods_high is.short_hyperperiod
    where
      within : (n h : ℕ) → n ≤ 64 → h ≤ 1000000 → n * h ≤ 64 * 1000000
      within n h few low = omega (arith, mul-le-mul_right h few)

  between_few : (job : Job) → IsBefore sheet.tasks (horizon sheet) job → length (between sheet.tasks job) ≤ 12 * 64016384
  between_few job before =
      let task : IsTask sheet.settings.cap (task_at sheet.tasks job.task) = is.tasks job.task _ before.task in
      let until : ℕ = deadline_of sheet.tasks job in
      let early : until ≤ 64016384 = omega (arith, before.release, short, task.deadline_high, is.settings.cap_high) in
      let other : Job → Bool = λ other. not (nat_eq other.task job.task) && nat_lt job.release other.release in
      omega (
        arith,
        length-filter other (jobs_before sheet.tasks until),
        count_by-le-length other (jobs_before sheet.tasks until),
        before_few sheet.tasks until,
        mul-le-mul_right until is.few,
        early,
      )

  few_between : (task : ℕ) → jobs_between sheet task ≤ 2000 * 768196608
  few_between task =
      let jobs : List Job = own_jobs sheet task in
      let each : Each (λ job. length (between sheet.tasks job) ≤ 768196608) jobs =
      Each-filter _ (λ job. nat_eq job.task task) (analysed_jobs sheet) (Each-weaker (IsBefore sheet.tasks (horizon sheet)) _ between_few (analysed_jobs sheet) (each_before sheet.tasks (horizon sheet))) in
      let few : length jobs ≤ 2000 = omega (arith, count_within task, is.jobs) in
      omega (arith, sum_most (λ job. length (between sheet.tasks job)) 768196608 jobs each, mul-le-mul_right 768196608 few)

  room_fits : room_for sheet ≤ 2 ^ 64 - 1
  room_fits = omega (arith, is.jobs, largest_below (length sheet.tasks) (jobs_between sheet) (2000 * 768196608) (λ task low. few_between task))

  -- and so are those that delay an analysed job
  pub delays_few : (level : Level) (number : ℕ) → level.own < length sheet.tasks → number < job_count sheet level.own →
      length (delaying_jobs sheet.tasks level (nth_job sheet.tasks level.own number).release) ≤ 2 ^ 64 - 1
  delays_few level number low counted =
      let own : Task = task_at sheet.tasks level.own in
      let task : IsTask sheet.settings.cap own = is.tasks level.own _ low in
      let release : ℕ = (nth_job sheet.tasks level.own number).release in
      let until : ℕ = release + own.deadline in
      let before : number < releases own (horizon sheet) = omega (arith, counted, releases_before sheet.tasks level.own (horizon sheet) low) in
      let early : until ≤ 64016384 =
      omega (arith, released_before_end own number (horizon sheet) before, end_within own (horizon sheet), short, task.deadline_high, is.settings.cap_high) in
      let delays : Job → Bool = λ job. level.higher job.task && nat_lt release job.release in
      omega (
        arith,
        length-filter delays (jobs_before sheet.tasks until),
        count_by-le-length delays (jobs_before sheet.tasks until),
        before_few sheet.tasks until,
        mul-le-mul_right until is.few,
        early,
      )

pub entries_are_countable : EntriesAreCountable
entries_are_countable = room_fits
