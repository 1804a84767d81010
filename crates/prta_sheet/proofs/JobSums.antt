-- Sums over the jobs before a time, by task and by the number of the job.
use Rattle.std.proofs.Common.{◌≡◌, ℕ, zero, suc, ◌+◌, ◌-◌, ◌*◌, ◌/◌, ◌%◌, ◌<◌, ◌≤◌, Bool, true, false, ◌&&◌, cond, nat_le, nat_eq, if◌then◌else◌, List, [], ◌∷◌, length, sum_by, refl, ap, ap₂, sym, ◌∙◌, arith, inl, inr, add-one}
use Rattle.std.proofs.lemmas.List.Sums.{sum_by-cons, sum_by-append, length-filter}
use Rattle.std.proofs.lemmas.Nat.{div-mul-add}
use Rattle.std.proofs.lemmas.Bool.{cases_lt, cases_order, le-leb, lt-leb, leb-true, and_parts, eqb-true, ne_eqb, eq-eqb}
use Rattle.std.proofs.Math.Nat.{div-add-mod', div-zero, mod-zero, zero-div, zero-mod, mod-lt}
use Rattle.prta_sheet.specs.Sheet.{Task, task_at}
use Rattle.prta_sheet.specs.Job.{Job, is_release, released_by, released_at, jobs_before}
use Rattle.prta_sheet.specs.Counts.{releases}
use Rattle.prta_sheet.specs.Weights.{one_if}
use Rattle.prta_sheet.specs.Laws.{ReleasesBefore}
use Rattle.prta_sheet.proofs.Below.{sum_below, sum_below-same, sum_below-add, sum_below-first, sum_below-constant, sum_below-none, sum_below-only}

-- ---- the times of release

-- a quotient grows by 1 at each multiple of the divisor
quotient_step : (p n : ℕ) → suc n / p ≡ n / p + one_if (nat_eq (suc n % p) 0)
quotient_step zero n = let above : nat_eq (suc n) 0 ≡ false = ne_eqb (suc n) 0 (λ e. omega arith) in rw (div-zero (suc n), div-zero n, mod-zero (suc n), above) refl
quotient_step (suc d) n = by_rest (suc n / suc d) (suc n % suc d) (div-add-mod' (suc n) (suc d)) (mod-lt (suc n) (omega arith))
  where
    by_rest : (q r : ℕ) → q * suc d + r ≡ suc n → r < suc d → q ≡ n / suc d + one_if (nat_eq r 0)
    by_rest zero zero e low = absurd (omega arith)
    by_rest (suc q) zero e low =
        let split : n ≡ q * suc d + d = omega arith in
        let before : n / suc d ≡ q = ap (λ m. m / suc d) split ∙ div-mul-add q (suc d) d (omega arith) in
        omega (arith, before)
    by_rest q (suc r) e low =
        let split : n ≡ q * suc d + r = omega arith in
        let before : n / suc d ≡ q = ap (λ m. m / suc d) split ∙ div-mul-add q (suc d) r (omega arith) in
        let no : nat_eq (suc r) 0 ≡ false = ne_eqb (suc r) 0 (λ e. omega arith) in
        rw no (omega (arith, before))

-- one more tick adds the release at it
releases_step : (task : Task) (t : ℕ) → releases task (suc t) ≡ releases task t + one_if (is_release task t)
releases_step task t = step task.offset task.period t
  where
    step : (o p t : ℕ) → cond (nat_le (suc t) o) 0 ((suc t - o - 1) / p + 1) ≡ cond (nat_le t o) 0 ((t - o - 1) / p + 1) + one_if (nat_le o t && nat_eq ((t - o) % p) 0)
    step o p t =
        elim (cases_order t o) [
          | inl same ↦
              let a : nat_le (suc t) o ≡ false = lt-leb (suc t) o (omega arith) in
              let b : nat_le t o ≡ true = le-leb t o (omega arith) in
              let c : nat_le o t ≡ true = le-leb o t (omega arith) in
              let d : suc t - o - 1 ≡ 0 = omega arith in
              let e : t - o ≡ 0 = omega arith in
              rw (a, b, c, d, e, zero-div p, zero-mod p) refl
          | inr (inl before) ↦
              let a : nat_le (suc t) o ≡ true = le-leb (suc t) o (omega arith) in
              let b : nat_le t o ≡ true = le-leb t o (omega arith) in
              let c : nat_le o t ≡ false = lt-leb o t (omega arith) in
              rw (a, b, c) refl
          | inr (inr after) ↦
              let a : nat_le (suc t) o ≡ false = lt-leb (suc t) o (omega arith) in
              let b : nat_le t o ≡ false = lt-leb t o (omega arith) in
              let c : nat_le o t ≡ true = le-leb o t (omega arith) in
              let d : suc t - o - 1 ≡ suc (t - o - 1) = omega arith in
              let e : t - o ≡ suc (t - o - 1) = omega arith in
              rw (a, b, c) (omega (arith, ap (λ m. m / p) d, quotient_step p (t - o - 1), ap (λ m. one_if (nat_eq (m % p) 0)) e))
        ]

-- the number of the job that is released at t
number_is : (task : Task) (t : ℕ) → is_release task t ≡ true → (t - task.offset) / task.period ≡ releases task t
number_is task t h = number task.offset task.period t h
  where
    number : (o p t : ℕ) → (nat_le o t && nat_eq ((t - o) % p) 0) ≡ true → (t - o) / p ≡ cond (nat_le t o) 0 ((t - o - 1) / p + 1)
    number o p t h =
        let (reached, whole) = and_parts (nat_le o t) (nat_eq ((t - o) % p) 0) h in
        let low : o ≤ t = leb-true o t reached in
        elim (cases_lt o t) [
          | inl after ↦
              let b : nat_le t o ≡ false = lt-leb t o (omega arith) in
              let e : t - o ≡ suc (t - o - 1) = omega arith in
              let one : one_if (nat_eq (suc (t - o - 1) % p) 0) ≡ 1 = ap one_if (sym (ap (λ m. nat_eq (m % p) 0) e) ∙ whole) in
              rw b (omega (arith, quotient_step p (t - o - 1), one, ap (λ m. m / p) e))
          | inr here ↦
              let b : nat_le t o ≡ true = le-leb t o (omega arith) in
              let gone : t - o ≡ 0 = omega arith in
              rw (b, gone) (zero-div p)
        ]

-- and its release by that number
release_is : (task : Task) (t : ℕ) → is_release task t ≡ true → task.offset + (t - task.offset) / task.period * task.period ≡ t
release_is task t h =
    let (reached, whole) = and_parts (nat_le task.offset t) (nat_eq ((t - task.offset) % task.period) 0) h in
    omega (arith, div-add-mod' (t - task.offset) task.period, leb-true task.offset t reached, eqb-true ((t - task.offset) % task.period) 0 whole)

-- before a multiple of its period, a task with its offset below the period releases once for each period
pub releases_whole : (task : Task) (t : ℕ) → task.offset < task.period → t % task.period ≡ 0 → releases task t ≡ t / task.period
releases_whole task t early whole = by_quotient task.offset task.period (t / task.period) t early (omega (arith, div-add-mod' t task.period, whole))
  where
    by_quotient : (o p q t : ℕ) → o < p → t ≡ q * p → cond (nat_le t o) 0 ((t - o - 1) / p + 1) ≡ q
    by_quotient o p zero t early e = let b : nat_le t o ≡ true = le-leb t o (omega arith) in rw b refl
    by_quotient o p (suc q) t early e =
        let b : nat_le t o ≡ false = lt-leb t o (omega arith) in
        let split : t - o - 1 ≡ q * p + (p - o - 1) = omega arith in
        let before : (t - o - 1) / p ≡ q = ap (λ m. m / p) split ∙ div-mul-add q p (p - o - 1) (omega arith) in
        rw b (omega (arith, before))

-- ---- sums of a number for each job

-- the job of this number of a task
abbrev pub job_of : ℕ → Task → ℕ → Job
job_of i task k = record { task = i; number = k; release = task.offset + k * task.period }

module _ (f : Job → ℕ) where
  abbrev pub own : ℕ → Task → ℕ → ℕ
  own i task k = f (job_of i task k)

  -- the sum over the jobs that a task releases before t
  abbrev pub own_sum : ℕ → Task → ℕ → ℕ
  own_sum i task t = sum_below (own i task) (releases task t)

  own_step : (i : ℕ) (task : Task) (t : ℕ) → own_sum i task (suc t) ≡ own_sum i task t + sum_by f (released_by i task t)
  own_step i task t =
      ap (sum_below (own i task)) (releases_step task t)
      ∙ one_more (is_release task t) (releases task t) (record { task = i; number = (t - task.offset) / task.period; release = t })
      (λ h. ap₂ (λ (k r : ℕ). f (record { task = i; number = k; release = r })) (number_is task t h)
      (sym (release_is task t h) ∙ ap (λ k. task.offset + k * task.period) (number_is task t h)))
    where
      one_more : (b : Bool) (n : ℕ) (job : Job) → (b ≡ true → f job ≡ own i task n) →
          sum_below (own i task) (n + one_if b) ≡ sum_below (own i task) n + sum_by f (if b then job ∷ [] else [])
      one_more true n job e = rw add-one (omega (arith, e refl, sum_by-cons f job []))
      one_more false n job e = let same : n + 0 ≡ n = omega arith in rw same (omega arith)

  at_step : (i : ℕ) (tasks : List Task) (t : ℕ) →
      sum_by f (released_at i tasks t) ≡ sum_below (λ j. sum_by f (released_by (i + j) (task_at tasks j) t)) (length tasks)
  at_step i [] t = refl
  at_step i (task ∷ tasks) t =
      let each : ℕ → ℕ = λ j. sum_by f (released_by (i + j) (task_at (task ∷ tasks) j) t) in
      let this : each 0 ≡ sum_by f (released_by i task t) = ap (λ m. sum_by f (released_by m task t)) (omega arith) in
      let rest : sum_below (λ j. sum_by f (released_by (i + 1 + j) (task_at tasks j) t)) (length tasks) ≡ sum_below (λ j. each (suc j)) (length tasks) =
      sum_below-same _ _ (length tasks) (λ j low. ap (λ m. sum_by f (released_by m (task_at tasks j) t)) (omega arith)) in
      omega (arith, sum_by-append f (released_by i task t) (released_at (i + 1) tasks t), at_step (i + 1) tasks t, rest, this, sum_below-first each (length tasks))

  -- the sum over all jobs before t, task by task
  pub jobs_sum : (tasks : List Task) (t : ℕ) → sum_by f (jobs_before tasks t) ≡ sum_below (λ i. own_sum i (task_at tasks i) t) (length tasks)
  jobs_sum tasks zero = sym (sum_below-none _ (length tasks) (λ i low. ap (sum_below (own i (task_at tasks i))) (none_before_0 (task_at tasks i))))
    where
      none_before_0 : (task : Task) → releases task 0 ≡ 0
      none_before_0 task = let b : nat_le 0 task.offset ≡ true = le-leb 0 task.offset (omega arith) in rw b refl
  jobs_sum tasks (suc t) =
      let now : ℕ → ℕ = λ i. own_sum i (task_at tasks i) t in
      let more : ℕ → ℕ = λ i. sum_by f (released_by (0 + i) (task_at tasks i) t) in
      let each : sum_below (λ i. own_sum i (task_at tasks i) (suc t)) (length tasks) ≡ sum_below (λ i. now i + more i) (length tasks) =
      sum_below-same _ _ (length tasks) (λ i low. own_step i (task_at tasks i) t ∙ ap (λ m. now i + sum_by f (released_by m (task_at tasks i) t)) (omega arith)) in
      omega (arith, sum_by-append f (jobs_before tasks t) (released_at 0 tasks t), jobs_sum tasks t, at_step 0 tasks t, each, sum_below-add now more (length tasks))

-- ---- counts

pub length_sum : {X : Type 0} (xs : List X) → length xs ≡ sum_by (λ x. 1) xs
length_sum [] = refl
length_sum (x ∷ xs) = omega (arith, length_sum xs, sum_by-cons (λ x. 1) x xs)

-- the number of all jobs before t
pub jobs_length : (tasks : List Task) (t : ℕ) → length (jobs_before tasks t) ≡ sum_below (λ i. releases (task_at tasks i) t) (length tasks)
jobs_length tasks t =
    length_sum (jobs_before tasks t) ∙ jobs_sum (λ job. 1) tasks t
    ∙ sum_below-same _ _ (length tasks) (λ i low. sum_below-constant 1 (releases (task_at tasks i) t) ∙ omega arith)

pub releases_before : ReleasesBefore
releases_before tasks i t low =
    length-filter (λ (job : Job). nat_eq job.task i) (jobs_before tasks t)
    ∙ jobs_sum (λ job. one_if (nat_eq job.task i)) tasks t
    ∙ sum_below-only _ (length tasks) i low (λ k l other. none k (releases (task_at tasks k) t) (ne_eqb k i other))
    ∙ sum_below-constant (one_if (nat_eq i i)) (releases (task_at tasks i) t)
    ∙ ap (λ b. releases (task_at tasks i) t * one_if b) (eq-eqb i i refl)
    ∙ omega arith
  where
    none : (k n : ℕ) → nat_eq k i ≡ false → sum_below (λ m. one_if (nat_eq k i)) n ≡ 0
    none k n e = sum_below-none _ n (λ m l. ap one_if e)
