-- The jobs before a whole number of hyperperiods.
use Rattle.std.proofs.Common.{◌≡◌, ℕ, ◌*◌, ◌/◌, ◌%◌, ◌<◌, ◌≤◌, nat_eq, List, [], ◌∷◌, length, get_or, filter, All, sum_by, refl, ap, sym, subst, ◌∙◌, arith}
use Rattle.std.proofs.lemmas.List.{get_or_default}
use Rattle.std.proofs.lemmas.List.Sums.{sum_by-cons, get_or-le-sum_by}
use Rattle.std.proofs.lemmas.List.Elements.{All-weaker}
use Rattle.std.proofs.lemmas.Nat.{mul-le}
use Rattle.std.proofs.Math.Nat.{dvd-mul_left_of_dvd, mod-eq-zero_of_dvd}
use Rattle.prta_sheet.specs.Sheet.{Task, Sheet, task_at, cycle_ticks, hyperperiod, horizon}
use Rattle.prta_sheet.specs.Job.{jobs_before}
use Rattle.prta_sheet.specs.Counts.{job_count}
use Rattle.prta_sheet.specs.Accepted.{IsAccepted, IsTask}
use Rattle.prta_sheet.proofs.Below.{sum_below, sum_below-same, sum_below-first}
use Rattle.prta_sheet.proofs.Multiples.{whole_periods}
use Rattle.prta_sheet.proofs.JobSums.{releases_whole, jobs_length, releases_before}

-- a sum over a list is one over its places
pub sum_by_places : {X : Type 0} (f : X → ℕ) (xs : List X) (d : X) → sum_by f xs ≡ sum_below (λ i. f (get_or xs i d)) (length xs)
sum_by_places f [] d = refl
sum_by_places f (x ∷ xs) d = omega (arith, sum_by-cons f x xs, sum_by_places f xs d, sum_below-first (λ i. f (get_or (x ∷ xs) i d)) (length xs))

-- the premise of a least hyperperiod
some_ticks : (tasks : List Task) → All (λ task. task.offset < task.period) tasks → All (λ task. 1 ≤ length task.cycle) tasks → All (λ task. 1 ≤ cycle_ticks task) tasks
some_ticks tasks early some k d low = mul-le 1 1 (get_or tasks k d).period (length (get_or tasks k d).cycle) (omega (arith, early k d low)) (some k d low)

module _ (tasks : List Task) (early : All (λ task. task.offset < task.period) tasks) (some : All (λ task. 1 ≤ length task.cycle) tasks) (n : ℕ) where
  abbrev end : ℕ
  end = n * hyperperiod tasks

  end_is_whole : All (λ task. end % task.period ≡ 0) tasks
  end_is_whole k d low =
      let period : ℕ = (get_or tasks k d).period in
      mod-eq-zero_of_dvd period (dvd-mul_left_of_dvd period (whole_periods tasks (some_ticks tasks early some) k d low) n)

  -- each task releases once for each of its periods
  pub jobs_of_task : (i : ℕ) → i < length tasks → length (filter (λ job. nat_eq job.task i) (jobs_before tasks end)) ≡ end / (task_at tasks i).period
  jobs_of_task i low = releases_before tasks i end low ∙ releases_whole (task_at tasks i) end (early i _ low) (end_is_whole i _ low)

  pub jobs_of_all : length (jobs_before tasks end) ≡ sum_by (λ task. end / task.period) tasks
  jobs_of_all =
      jobs_length tasks end
      ∙ sum_below-same _ _ (length tasks) (λ i low. releases_whole (task_at tasks i) end (early i _ low) (end_is_whole i _ low))
      ∙ sym (sum_by_places (λ task. end / task.period) tasks _)

  pub jobs_before_end : (h : ℕ) → h ≡ hyperperiod tasks → sum_by (λ task. n * h / task.period) tasks ≡ length (jobs_before tasks (n * h))
  jobs_before_end h e =
      let Counts : ℕ → Type 0 = λ h. sum_by (λ task. n * h / task.period) tasks ≡ length (jobs_before tasks (n * h)) in
      subst Counts (sym e) (sym jobs_of_all)

  pub whole_at : (h : ℕ) → h ≡ hyperperiod tasks → All (λ task. n * h % task.period ≡ 0) tasks
  whole_at h e = let AllWhole : ℕ → Type 0 = λ h. All (λ task. n * h % task.period ≡ 0) tasks in subst AllWhole (sym e) end_is_whole

  -- no task has more jobs than all have
  pub jobs_within : (h : ℕ) → h ≡ hyperperiod tasks → (i : ℕ) → i < length tasks → n * h / (task_at tasks i).period ≤ length (jobs_before tasks end)
  jobs_within h e i low =
      let count : ℕ → Task → ℕ = λ h task. n * h / task.period in
      let within : count (hyperperiod tasks) (task_at tasks i) ≤ sum_by (count (hyperperiod tasks)) tasks = get_or-le-sum_by (count (hyperperiod tasks)) tasks i _ low in
      omega (arith, jobs_of_all, within, ap (λ h. count h (task_at tasks i)) e)

-- a task in its ranges has its offset below its period
pub offsets_from : (cap : ℕ) (tasks : List Task) → All (IsTask cap) tasks → All (λ task. task.offset < task.period) tasks
offsets_from cap tasks h = All-weaker (IsTask cap) (λ task. task.offset < task.period) (λ task ranges. ranges.offset) tasks h

pub cycles_from : (cap : ℕ) (tasks : List Task) → All (IsTask cap) tasks → All (λ task. 1 ≤ length task.cycle) tasks
cycles_from cap tasks h = All-weaker (IsTask cap) (λ task. 1 ≤ length task.cycle) (λ task ranges. ranges.cycle_low) tasks h

pub job_count_is : (sheet : Sheet) → IsAccepted sheet → (i : ℕ) → i < length sheet.tasks → (d : Task) → job_count sheet i ≡ horizon sheet / (get_or sheet.tasks i d).period
job_count_is sheet accepted i low d =
    jobs_of_task sheet.tasks (offsets_from sheet.settings.cap sheet.tasks accepted.tasks) (cycles_from sheet.settings.cap sheet.tasks accepted.tasks) sheet.settings.hyperperiods i low
    ∙ ap (λ (task : Task). horizon sheet / task.period) (get_or_default sheet.tasks i _ d low)
