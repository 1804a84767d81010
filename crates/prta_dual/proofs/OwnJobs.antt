-- The analysed jobs of a task are its jobs in turn.
use Rattle.std.proofs.Common.{◌≡◌, ℕ, zero, suc, ◌+◌, ◌-◌, ◌*◌, ◌/◌, ◌<◌, ◌≤◌, Bool, true, false, ◌&&◌, cond, nat_eq, List, [], ◌∷◌, ◌++◌, length, map, filter, length-append, append-nil, refl, ap, ap₂, sym, ◌∙◌, arith, inl, inr}
use Rattle.std.specs.List.{range_with_len}
use Rattle.std.proofs.Math.Nat.{mul-div_left}
use Rattle.std.proofs.lemmas.Bool.{cases_lt, eq-eqb, ne_eqb}
use Rattle.std.proofs.lemmas.List.Elements.{filter-append}
use Rattle.std.proofs.lemmas.List.FromFn.{map-range_with_len_more}
use Rattle.prta_sheet.specs.Sheet.{Task, task_at, horizon}
use Rattle.prta_sheet.specs.Job.{Job, nth_job, is_release, released_by, released_at, jobs_before}
use Rattle.prta_sheet.specs.Counts.{releases}
use Rattle.prta_sheet.specs.Accepted.{IsTask}
use Rattle.prta_sheet.proofs.JobSums.{releases_before}
use Rattle.prta_jobs.specs.Instant.{IsNextRelease}
use Rattle.prta_jobs.proofs.NextRelease.{next_release_is}
use Rattle.prta_backlog.proofs.Released.{job_at, none_of}
use Rattle.prta_dual.specs.Laws.{OwnJobsInTurn}

-- ---- at a time

-- what task j releases is of task i, or is not
of_task : (i j : ℕ) (task : Task) (t : ℕ) (b : Bool) → nat_eq j i ≡ b → filter (λ job. nat_eq job.task i) (released_by j task t) ≡ cond b (released_by j task t) []
of_task i j task t b e = by_release (is_release task t) b e
  where
    by_release : (r b : Bool) → nat_eq j i ≡ b → filter (λ (job : Job). nat_eq job.task i) (cond r (job_at j task t ∷ []) []) ≡ cond b (cond r (job_at j task t ∷ []) []) []
    by_release true b e = ap (λ b. cond b (job_at j task t ∷ []) []) e
    by_release false true e = refl
    by_release false false e = refl

-- of the jobs of tasks counted from j, those of task i are what that task releases
own_released : (i j k : ℕ) (tasks : List Task) (t : ℕ) → j + k ≡ i → k < length tasks → filter (λ job. nat_eq job.task i) (released_at j tasks t) ≡ released_by i (task_at tasks k) t
own_released i j k [] t e low = absurd (omega arith)
own_released i j zero (task ∷ tasks) t e low =
    let own : j ≡ i = omega (arith, e) in
    filter-append (λ (job : Job). nat_eq job.task i) (released_by j task t) (released_at (j + 1) tasks t)
    ∙ ap₂ (λ (a b : List Job). a ++ b)
    (of_task i j task t true (eq-eqb j i own))
    (none_of (λ n. nat_eq n i) t (j + 1) tasks (λ k l. ap (λ b. b && is_release (task_at tasks k) t) (ne_eqb (j + 1 + k) i (λ same. omega arith))))
    ∙ append-nil (released_by j task t)
    ∙ ap (λ n. released_by n task t) own
own_released i j (suc k) (task ∷ tasks) t e low =
    filter-append (λ (job : Job). nat_eq job.task i) (released_by j task t) (released_at (j + 1) tasks t)
    ∙ ap₂ (λ (a b : List Job). a ++ b)
    (of_task i j task t false (ne_eqb j i (λ same. omega arith)))
    (own_released i (j + 1) k tasks t (omega (arith, e)) (omega arith))

-- ---- before a time

module _ (tasks : List Task) (i : ℕ) (low : i < length tasks) (some : 1 ≤ (task_at tasks i).period) where
  abbrev own_before : ℕ → List Job
  own_before t = filter (λ job. nat_eq job.task i) (jobs_before tasks t)

  -- one more tick adds what the task releases at it
  own_suc : (t : ℕ) → own_before (suc t) ≡ own_before t ++ released_by i (task_at tasks i) t
  own_suc t =
      filter-append (λ (job : Job). nat_eq job.task i) (jobs_before tasks t) (released_at 0 tasks t)
      ∙ ap (λ (jobs : List Job). own_before t ++ jobs) (own_released i 0 i tasks t (omega arith) low)

  -- which is the job whose number is how many there were
  job_is : (t n : ℕ) → is_release (task_at tasks i) t ≡ true → n ≡ releases (task_at tasks i) t → job_at i (task_at tasks i) t ≡ nth_job tasks i n
  job_is t n now count =
      let task : Task = task_at tasks i in
      let next : IsNextRelease task t (task.offset + n * task.period) = next_release_is task t (task.offset + n * task.period) some (ap (λ m. task.offset + m * task.period) count) in
      let release : t ≡ task.offset + n * task.period =
      elim (cases_lt t (task.offset + n * task.period)) [
        | inl later ↦ let both : true ≡ false = sym now ∙ next.least t (omega arith) later in cc
        | inr here ↦ omega (arith, here, next.reached)
      ] in
      let since : t - task.offset ≡ n * task.period = omega (arith, release) in
      let number : (t - task.offset) / task.period ≡ n = ap (λ m. m / task.period) since ∙ mul-div_left n some in
      ap₂ (λ k r. record { task = i; number = k; release = r }) number release

  -- one more tick keeps them in turn
  next_in_turn : (t : ℕ) (b : Bool) → is_release (task_at tasks i) t ≡ b → own_before t ≡ map (nth_job tasks i) (range_with_len 0 (length (own_before t))) →
      own_before (suc t) ≡ map (nth_job tasks i) (range_with_len 0 (length (own_before (suc t))))
  next_in_turn t true e before =
      let n : ℕ = length (own_before t) in
      let more : own_before (suc t) ≡ own_before t ++ nth_job tasks i n ∷ [] =
      own_suc t
      ∙ ap (λ b. own_before t ++ cond b (job_at i (task_at tasks i) t ∷ []) []) e
      ∙ ap (λ (job : Job). own_before t ++ job ∷ []) (job_is t n e (releases_before tasks i t low)) in
      let count : n + 1 ≡ length (own_before (suc t)) = omega (arith, ap length more, length-append (own_before t) (nth_job tasks i n ∷ [])) in
      more
      ∙ ap (λ (jobs : List Job). jobs ++ nth_job tasks i n ∷ []) before
      ∙ sym (map-range_with_len_more (nth_job tasks i) 0 n n (omega arith))
      ∙ ap (λ m. map (nth_job tasks i) (range_with_len 0 m)) count
  next_in_turn t false e before =
      let same : own_before (suc t) ≡ own_before t = own_suc t ∙ ap (λ b. own_before t ++ cond b (job_at i (task_at tasks i) t ∷ []) []) e ∙ append-nil (own_before t) in
      same ∙ before ∙ ap (λ (jobs : List Job). map (nth_job tasks i) (range_with_len 0 (length jobs))) (sym same)

  in_turn : (t : ℕ) → own_before t ≡ map (nth_job tasks i) (range_with_len 0 (length (own_before t)))
  in_turn zero = refl
  in_turn (suc t) = next_in_turn t (is_release (task_at tasks i) t) refl (in_turn t)

pub own_jobs_in_turn : OwnJobsInTurn
own_jobs_in_turn sheet i is low = let own : IsTask sheet.settings.cap (task_at sheet.tasks i) = is.tasks i _ low in in_turn sheet.tasks i low own.period_low (horizon sheet)
