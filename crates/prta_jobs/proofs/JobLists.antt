-- The jobs before a time, tick by tick.
use Rattle.std.proofs.Common.{◌≡◌, ℕ, zero, suc, ◌+◌, ◌-◌, ◌<◌, ◌≤◌, Bool, true, false, List, [], ◌∷◌, ◌++◌, length, take, refl, ap, ap₂, sym, ◌∙◌, arith, append_assoc}
use Rattle.std.proofs.lemmas.List.{append-nil}
use Rattle.prta_sheet.specs.Sheet.{Task, task_at}
use Rattle.prta_sheet.specs.Job.{Job, is_release, released_by, released_at, jobs_before}
use Rattle.prta_jobs.specs.Instant.{is_released, IsLeastRelease}

-- ---- at one time

-- one that doesn't release a job gives none
released_by_no : (i : ℕ) (task : Task) (t : ℕ) → is_release task t ≡ false → released_by i task t ≡ []
released_by_no i task t fails = rw fails refl

-- one more task
released_more : (j : ℕ) (tasks : List Task) (t i : ℕ) → i < length tasks → released_at j (take (i + 1) tasks) t ≡ released_at j (take i tasks) t ++ released_by (j + i) (task_at tasks i) t
released_more j [] t i low = absurd (omega arith)
released_more j (task ∷ tasks) t zero low = let place : j ≡ j + 0 = omega arith in append-nil (released_by j task t) ∙ ap (λ m. released_by m task t) place
released_more j (task ∷ tasks) t (suc i) low =
    let later : released_at (j + 1) (take (i + 1) tasks) t ≡ released_at (j + 1) (take i tasks) t ++ released_by (j + 1 + i) (task_at tasks i) t = released_more (j + 1) tasks t i (omega arith) in
    let place : j + 1 + i ≡ j + suc i = omega arith in
    let more : suc i + 1 ≡ suc (i + 1) = omega arith in
    ap (λ m. released_at j (take m (task ∷ tasks)) t) more
    ∙ ap (λ rest. released_by j task t ++ rest) (later ∙ ap (λ m. released_at (j + 1) (take i tasks) t ++ released_by m (task_at tasks i) t) place)
    ∙ sym (append_assoc (released_by j task t) (released_at (j + 1) (take i tasks) t) (released_by (j + suc i) (task_at tasks i) t))

-- no task releases a job
none_released : (j : ℕ) (tasks : List Task) (t : ℕ) → ((k : ℕ) → k < length tasks → is_release (task_at tasks k) t ≡ false) → released_at j tasks t ≡ []
none_released j [] t none = refl
none_released j (task ∷ tasks) t none =
    ap₂ (λ (a b : List Job). a ++ b) (released_by_no j task t (none 0 (omega arith))) (none_released (j + 1) tasks t (λ k low. none (suc k) (omega arith)))

-- ---- over times

-- no job is released for n ticks
quiet : (tasks : List Task) (from n : ℕ) → ((t : ℕ) → from ≤ t → t < from + n → (k : ℕ) → k < length tasks → is_release (task_at tasks k) t ≡ false) → jobs_before tasks (from + n) ≡ jobs_before tasks from
quiet tasks from zero none = let same : from + 0 ≡ from = omega arith in ap (jobs_before tasks) same
quiet tasks from (suc n) none =
    let next : from + suc n ≡ suc (from + n) = omega arith in
    ap (jobs_before tasks) next
    ∙ ap₂ (λ (a b : List Job). a ++ b) (quiet tasks from n (λ t low high k l. none t low (omega arith) k l)) (none_released 0 tasks (from + n) (λ k l. none (from + n) (omega arith) (omega arith) k l))
    ∙ append-nil (jobs_before tasks from)

module _ (tasks : List Task) (level : ℕ → Bool) (whole : (k : ℕ) → k < length tasks → level k ≡ true) where
  -- up to the least release of all tasks, there are no more jobs
  pub none_until : (from at until : ℕ) → IsLeastRelease tasks level from at → from ≤ until → until ≤ at → jobs_before tasks until ≡ jobs_before tasks from
  none_until from at until is low high =
      let split : until ≡ from + (until - from) = omega arith in
      ap (jobs_before tasks) split
      ∙ quiet tasks from (until - from) (λ t l h k below. released_is k below t ∙ is.least t l (omega arith) k)
    where
      released_is : (k : ℕ) → k < length tasks → (t : ℕ) → is_release (task_at tasks k) t ≡ is_released tasks level t k
      released_is k below t = rw (whole k below) refl

  -- with the jobs that are released then, they are those before the next tick
  pub jobs_after : (from at : ℕ) → IsLeastRelease tasks level from at → jobs_before tasks from ++ released_at 0 tasks at ≡ jobs_before tasks (at + 1)
  jobs_after from at is =
      let next : suc at ≡ at + 1 = omega arith in
      ap (λ jobs. jobs ++ released_at 0 tasks at) (sym (none_until from at at is is.reached (omega arith)))
      ∙ ap (jobs_before tasks) next

-- ---- appended task by task

module _ (tasks : List Task) (t i : ℕ) (low : i < length tasks) where
  released_next : released_at 0 (take (i + 1) tasks) t ≡ released_at 0 (take i tasks) t ++ released_by i (task_at tasks i) t
  released_next =
      let place : 0 + i ≡ i = omega arith in
      released_more 0 tasks t i low ∙ ap (λ m. released_at 0 (take i tasks) t ++ released_by m (task_at tasks i) t) place

  pub with_job : (old items next : List Job) (job : Job) → items ≡ old ++ released_at 0 (take i tasks) t → next ≡ items ++ job ∷ [] → released_by i (task_at tasks i) t ≡ job ∷ [] →
      next ≡ old ++ released_at 0 (take (i + 1) tasks) t
  with_job old items next job before pushed is =
      pushed
      ∙ ap (λ (jobs : List Job). jobs ++ job ∷ []) before
      ∙ append_assoc old (released_at 0 (take i tasks) t) (job ∷ [])
      ∙ ap (λ (jobs : List Job). old ++ (released_at 0 (take i tasks) t ++ jobs)) (sym is)
      ∙ ap (λ (jobs : List Job). old ++ jobs) (sym released_next)

  pub without_job : (old items : List Job) → items ≡ old ++ released_at 0 (take i tasks) t → is_release (task_at tasks i) t ≡ false → items ≡ old ++ released_at 0 (take (i + 1) tasks) t
  without_job old items before fails =
      before
      ∙ ap (λ (jobs : List Job). old ++ jobs)
      (sym (released_next ∙ ap (λ (jobs : List Job). released_at 0 (take i tasks) t ++ jobs) (released_by_no i (task_at tasks i) t fails) ∙ append-nil (released_at 0 (take i tasks) t)))
