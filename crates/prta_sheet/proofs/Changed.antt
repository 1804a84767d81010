-- A list of tasks in which one is changed: what the jobs, the hyperperiod and the work depend on.
use Rattle.std.proofs.Common.{◌≡◌, ℕ, zero, suc, ◌+◌, ◌*◌, ◌&&◌, not, nat_eq, nat_lt, List, [], ◌∷◌, ◌++◌, length, get_or, set, filter, fold, sum_by, refl, ap, ap₂, ◌∙◌}
use Rattle.std.specs.List.{range_with_len}
use Rattle.prta_sheet.specs.declared.settings.Settings.{Settings}
use Rattle.prta_sheet.specs.Sheet.{Task, Sheet, task_at, cycle_ticks, least_common_multiple, hyperperiod, horizon}
use Rattle.prta_sheet.specs.Job.{Job, deadline_of, released_by, released_at, jobs_before, analysed_jobs}
use Rattle.prta_sheet.specs.Counts.{job_count, all_jobs}
use Rattle.prta_sheet.specs.Work.{points_of, between, job_work, task_work, work}
use Rattle.prta_sheet.proofs.Sums.{sum_by-same}

-- where the new element agrees with the old one, so do all
pub at_changed : {X Y : Type 0} (f : X → Y) (xs : List X) (i k : ℕ) (x d : X) → f x ≡ f (get_or xs i d) → f (get_or (set xs i x) k d) ≡ f (get_or xs k d)
at_changed f [] i k x d e = refl
at_changed f (y ∷ ys) zero zero x d e = e
at_changed f (y ∷ ys) zero (suc k) x d e = refl
at_changed f (y ∷ ys) (suc i) zero x d e = refl
at_changed f (y ∷ ys) (suc i) (suc k) x d e = at_changed f ys i k x d e

-- ---- the jobs and the hyperperiod

-- two tasks release at the same times, and their cycles are equally long
pub record AreInStep (task other : Task) : Type 0 where
  pub offset : task.offset ≡ other.offset
  pub period : task.period ≡ other.period
  pub size : length task.cycle ≡ length other.cycle

module _ (x : Task) where
  released_by_changed : (j : ℕ) (task : Task) (t : ℕ) → AreInStep x task → released_by j x t ≡ released_by j task t
  released_by_changed j task t h = rw (h.offset, h.period) refl

  released_changed : (j : ℕ) (tasks : List Task) (i t : ℕ) → AreInStep x (task_at tasks i) → released_at j (set tasks i x) t ≡ released_at j tasks t
  released_changed j [] i t h = refl
  released_changed j (task ∷ tasks) zero t h = ap (λ jobs. jobs ++ released_at (j + 1) tasks t) (released_by_changed j task t h)
  released_changed j (task ∷ tasks) (suc i) t h = ap (λ jobs. released_by j task t ++ jobs) (released_changed (j + 1) tasks i t h)

  pub jobs_changed : (tasks : List Task) (i t : ℕ) → AreInStep x (task_at tasks i) → jobs_before (set tasks i x) t ≡ jobs_before tasks t
  jobs_changed tasks i zero h = refl
  jobs_changed tasks i (suc t) h = ap₂ (λ xs ys. xs ++ ys) (jobs_changed tasks i t h) (released_changed 0 tasks i t h)

  multiple_changed : (n : ℕ) (tasks : List Task) (i : ℕ) → AreInStep x (task_at tasks i) →
      fold (λ a task. least_common_multiple a (cycle_ticks task)) n (set tasks i x) ≡ fold (λ a task. least_common_multiple a (cycle_ticks task)) n tasks
  multiple_changed n [] i h = refl
  multiple_changed n (task ∷ tasks) zero h =
      let ticks : cycle_ticks x ≡ cycle_ticks task = ap₂ (λ p c. p * c) h.period h.size in
      ap (λ m. fold (λ a task. least_common_multiple a (cycle_ticks task)) (least_common_multiple n m) tasks) ticks
  multiple_changed n (task ∷ tasks) (suc i) h = multiple_changed (least_common_multiple n (cycle_ticks task)) tasks i h

  pub hyperperiod_changed : (tasks : List Task) (i : ℕ) → AreInStep x (task_at tasks i) → hyperperiod (set tasks i x) ≡ hyperperiod tasks
  hyperperiod_changed tasks i h = multiple_changed 1 tasks i h

-- ---- equal jobs have equal counts and, with equal deadlines and points, equal work

module _ (settings : Settings) (old new : List Task) (same_hyperperiod : hyperperiod new ≡ hyperperiod old) (same_jobs : (t : ℕ) → jobs_before new t ≡ jobs_before old t) where
  abbrev sheet_of : List Task → Sheet
  sheet_of tasks = record { settings = settings; tasks = tasks }

  same_analysed : analysed_jobs (sheet_of new) ≡ analysed_jobs (sheet_of old)
  same_analysed = same_jobs (horizon (sheet_of new)) ∙ ap (λ h. jobs_before old (settings.hyperperiods * h)) same_hyperperiod

  pub same_job_count : (i : ℕ) → job_count (sheet_of new) i ≡ job_count (sheet_of old) i
  same_job_count i = ap (λ jobs. length (filter (λ (job : Job). nat_eq job.task i) jobs)) same_analysed

  pub same_all_jobs : all_jobs (sheet_of new) ≡ all_jobs (sheet_of old)
  same_all_jobs = ap length same_analysed

  module _ (size : length new ≡ length old) (deadlines : (i : ℕ) → (task_at new i).deadline ≡ (task_at old i).deadline) (points : (job : Job) → points_of new job ≡ points_of old job) where
    same_between : (job : Job) → between new job ≡ between old job
    same_between job =
        ap (filter (λ (other : Job). not (nat_eq other.task job.task) && nat_lt job.release other.release))
        (same_jobs (deadline_of new job) ∙ ap (λ d. jobs_before old (job.release + d)) (deadlines job.task))

    same_job_work : (job : Job) → job_work new job ≡ job_work old job
    same_job_work job =
        ap₂ (λ d s. (d + 1) * s) (deadlines job.task)
        (sum_by-same (points_of new) (points_of old) points (between new job) ∙ ap (sum_by (points_of old)) (same_between job))

    same_task_work : (i : ℕ) → task_work (sheet_of new) i ≡ task_work (sheet_of old) i
    same_task_work i =
        let own : List Job → List Job = filter (λ (job : Job). nat_eq job.task i) in
        ap₂ (λ a b. settings.cap * a + b)
        (sum_by-same (points_of new) (points_of old) points (analysed_jobs (sheet_of new)) ∙ ap (sum_by (points_of old)) same_analysed)
        (sum_by-same (job_work new) (job_work old) same_job_work (own (analysed_jobs (sheet_of new))) ∙ ap (λ jobs. sum_by (job_work old) (own jobs)) same_analysed)

    pub same_work : work (sheet_of new) ≡ work (sheet_of old)
    same_work =
        sum_by-same (task_work (sheet_of new)) (task_work (sheet_of old)) same_task_work (range_with_len 0 (length new))
        ∙ ap (λ n. sum_by (task_work (sheet_of old)) (range_with_len 0 n)) size
