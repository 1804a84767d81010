-- The jobs of the first hyperperiod are few, and so are their delays.
use Rattle.std.proofs.Common.{◌≡◌, ℕ, zero, suc, ◌+◌, ◌-◌, ◌*◌, ◌/◌, ◌^◌, ◌<◌, ◌≤◌, Bool, true, false, cond, ◌&&◌, nat_le, nat_lt, List, [], ◌∷◌, length, length-append, sym, subst, arith, mul-le-mul_right}
use Rattle.std.proofs.Math.Nat.{div-mul-le_self, le-div_iff_mul-le}
use Rattle.std.proofs.lemmas.Bool.{lt-leb}
use Rattle.std.proofs.lemmas.List.Sums.{length-filter, count_by-le-length}
use Rattle.prta_sheet.specs.Sheet.{Task, Sheet, task_at, hyperperiod, horizon}
use Rattle.prta_sheet.specs.Job.{Job, nth_job, is_release, released_by, released_at, jobs_before}
use Rattle.prta_sheet.specs.Counts.{job_count}
use Rattle.prta_sheet.specs.Accepted.{IsAccepted, IsTask}
use Rattle.prta_sheet.proofs.JobSums.{releases_before}
use Rattle.prta_backlog.specs.Level.{Level}
use Rattle.prta_backlog.proofs.Released.{job_at}
use Rattle.prta_response.specs.Response.{delaying_jobs}

-- ---- each job of the first hyperperiod is analysed

-- the release of a task's job of the first hyperperiod is before its end
pub release_within : (h : ℕ) (task : Task) (k : ℕ) → task.offset < task.period → k < h / task.period → task.offset + k * task.period < h
release_within h task k low few =
    let more : (k + 1) * task.period ≤ h / task.period * task.period = mul-le-mul_right task.period (omega arith) in
    let next : (k + 1) * task.period ≡ k * task.period + task.period = next_one k task.period in
    omega (arith, div-mul-le_self h task.period)
  where
    next_one : (n p : ℕ) → (n + 1) * p ≡ n * p + p
    next_one n p = omega arith

-- what is released before a time is counted before it
counted_before : (k t o p : ℕ) → 0 < p → o + k * p < t → k < cond (nat_le t o) 0 ((t - o - 1) / p + 1)
counted_before k t o p some low =
    let later : nat_le t o ≡ false = lt-leb t o (omega arith) in
    let whole : k ≤ (t - o - 1) / p = (le-div_iff_mul-le some).1 (omega arith) in
    subst (λ b. k < cond b 0 ((t - o - 1) / p + 1)) (sym later) (omega arith)

module _ (sheet : Sheet) (task : ℕ) (accepted : IsAccepted sheet) (listed : task < length sheet.tasks) where
  ranges : IsTask sheet.settings.cap (task_at sheet.tasks task)
  ranges = accepted.tasks task _ listed

  pub early_offset : (task_at sheet.tasks task).offset < (task_at sheet.tasks task).period
  early_offset = ranges.offset

  pub short_deadline : (n : ℕ) → n ≡ sheet.settings.cap → (task_at sheet.tasks task).deadline < n
  short_deadline n size = omega (arith, size, ranges.deadline_high)

  pub hyperperiod_in : hyperperiod sheet.tasks ≤ horizon sheet
  hyperperiod_in = at_least_once sheet.settings.hyperperiods (hyperperiod sheet.tasks) accepted.settings.hyperperiods_low
    where
      at_least_once : (n h : ℕ) → 1 ≤ n → h ≤ n * h
      at_least_once n h some = omega (arith, mul-le-mul_right h some)

  pub is_analysed : (k : ℕ) → k < hyperperiod sheet.tasks / (task_at sheet.tasks task).period → k < job_count sheet task
  is_analysed k few =
      let own : Task = task_at sheet.tasks task in
      let within : own.offset + k * own.period < horizon sheet = omega (arith, release_within (hyperperiod sheet.tasks) own k early_offset few, hyperperiod_in) in
      omega (arith, counted_before k (horizon sheet) own.offset own.period ranges.period_low within, releases_before sheet.tasks task (horizon sheet) listed)

-- ---- delays

released_few : (i : ℕ) (tasks : List Task) (t : ℕ) → length (released_at i tasks t) ≤ length tasks
released_few i [] t = omega arith
released_few i (task ∷ tasks) t = omega (arith, length-append (released_by i task t) (released_at (i + 1) tasks t), one (is_release task t), released_few (i + 1) tasks t)
  where
    one : (b : Bool) → length (cond b (job_at i task t ∷ []) []) ≤ 1
    one true = omega arith
    one false = omega arith

before_few : (tasks : List Task) (t : ℕ) → length (jobs_before tasks t) ≤ length tasks * t
before_few tasks zero = omega arith
before_few tasks (suc t) =
    omega (arith, length-append (jobs_before tasks t) (released_at 0 tasks t), before_few tasks t, released_few 0 tasks t, more (length tasks) t)
  where
    more : (n t : ℕ) → n * suc t ≡ n * t + n
    more n t = omega arith

-- those of one of these jobs are fewer than a list without an end takes
pub delays_few : (sheet : Sheet) (level : Level) (k : ℕ) → IsAccepted sheet → level.own < length sheet.tasks → k < hyperperiod sheet.tasks / (task_at sheet.tasks level.own).period →
    length (delaying_jobs sheet.tasks level (nth_job sheet.tasks level.own k).release) ≤ 2 ^ 64 - 1
delays_few sheet level k accepted listed few =
    let own : Task = task_at sheet.tasks level.own in
    let is : IsTask sheet.settings.cap own = ranges sheet level.own accepted listed in
    let r : ℕ = (nth_job sheet.tasks level.own k).release in
    let until : ℕ = r + own.deadline in
    let delaying_one : Job → Bool = λ job. level.higher job.task && nat_lt r job.release in
    let early : r < hyperperiod sheet.tasks = release_within (hyperperiod sheet.tasks) own k is.offset few in
    let short : until ≤ 1000000 + 16384 = omega (arith, early, accepted.short_hyperperiod, is.deadline_high, accepted.settings.cap_high) in
    omega (
      arith,
      length-filter delaying_one (jobs_before sheet.tasks until),
      count_by-le-length delaying_one (jobs_before sheet.tasks until),
      before_few sheet.tasks until,
      mul-le-mul_right until accepted.few,
      short,
    )
