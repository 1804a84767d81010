-- The sums of a sheet's work, task by task.
use Rattle.std.proofs.Common.{◌≡◌, ℕ, zero, suc, ◌+◌, ◌-◌, ◌*◌, ◌/◌, ◌%◌, ◌<◌, ◌≤◌, Bool, true, false, not, ◌&&◌, cond, nat_le, nat_lt, nat_eq, List, length, filter, sum_by, All, refl, ap, ap₂, sym, ◌∙◌, arith, inl, inr}
use Rattle.std.specs.List.{range_with_len}
use Rattle.std.proofs.lemmas.List.Sums.{sum_by-cons}
use Rattle.std.proofs.lemmas.List.Elements.{All-weaker}
use Rattle.std.proofs.lemmas.Bool.{cases_lt, le-leb, lt-leb, lt-ltb, le-ltb, ne_eqb, eq-eqb}
use Rattle.std.proofs.Math.Nat.{div-lt_iff_lt-mul}
use Rattle.prta_sheet.specs.Sheet.{Task, task_at, table_in}
use Rattle.prta_sheet.specs.Job.{Job, nth_job, jobs_before}
use Rattle.prta_sheet.specs.Counts.{releases}
use Rattle.prta_sheet.specs.Weights.{one_if}
use Rattle.prta_sheet.specs.Work.{points_of, points_of_first, points_of_other, IsSmall}
use Rattle.prta_sheet.proofs.Below.{sum_below, sum_below-same, sum_below-first, sum_below-rises, sum_below-none, sum_below-only}
use Rattle.prta_sheet.proofs.Sums.{sum_by-filter}
use Rattle.prta_sheet.proofs.JobSums.{job_of, jobs_sum, releases_whole}
use Rattle.prta_sheet.proofs.Whole.{sum_by_places}
use Rattle.prta_sheet.proofs.Cycles.{points_first}

-- a sum over a range
pub sum_by_range : (f : ℕ → ℕ) (from n : ℕ) → sum_by f (range_with_len from n) ≡ sum_below (λ k. f (from + k)) n
sum_by_range f from zero = refl
sum_by_range f from (suc n) =
    let here : f (from + 0) ≡ f from = ap f (omega arith) in
    let later : sum_below (λ k. f (from + 1 + k)) n ≡ sum_below (λ k. f (from + suc k)) n = sum_below-same _ _ n (λ k low. ap f (omega arith)) in
    omega (arith, sum_by-cons f from (range_with_len (from + 1) n), sum_by_range f (from + 1) n, sum_below-first (λ k. f (from + k)) n, here, later)

-- one number for each task
pub sum_of_tasks : (f : ℕ → ℕ) (n : ℕ) → sum_below f n ≡ sum_by f (range_with_len 0 n)
sum_of_tasks f n = sym (sum_by_range f 0 n ∙ sum_below-same _ _ n (λ k low. ap f (omega arith)))

-- numbers counted from the place a on
sum_below-from : (f : ℕ → ℕ) (a n : ℕ) → sum_below (λ k. f k * one_if (nat_le a k)) n ≡ sum_below f n - sum_below f a
sum_below-from f a zero = omega arith
sum_below-from f a (suc n) =
    elim (cases_lt n a) [
      | inl before ↦
          let no : nat_le a n ≡ false = lt-leb a n before in
          omega (arith, sum_below-from f a n, ap (λ b. f n * one_if b) no, sum_below-rises f (suc n) a before)
      | inr here ↦
          let ok : nat_le a n ≡ true = le-leb a n here in
          omega (arith, sum_below-from f a n, ap (λ b. f n * one_if b) ok, sum_below-rises f a n here)
    ]

-- a job is released after r where it is none of its task's jobs before r + 1
after_number : (task : Task) → 1 ≤ task.period → (r k : ℕ) → nat_lt r (task.offset + k * task.period) ≡ nat_le (releases task (r + 1)) k
after_number task some r k = number task.offset task.period some
  where
    number : (o p : ℕ) → 1 ≤ p → nat_lt r (o + k * p) ≡ nat_le (cond (nat_le (r + 1) o) 0 ((r + 1 - o - 1) / p + 1)) k
    number o p some =
        elim (cases_lt r o) [
          | inl early ↦
              let a : nat_le (r + 1) o ≡ true = le-leb (r + 1) o (omega arith) in
              rw a (lt-ltb r (o + k * p) (omega arith) ∙ sym (le-leb 0 k (omega arith)))
          | inr late ↦
              let a : nat_le (r + 1) o ≡ false = lt-leb (r + 1) o (omega arith) in
              let since : r + 1 - o - 1 ≡ r - o = omega arith in
              rw (a, since) (by_quotient o p some late)
        ]
      where
        by_quotient : (o p : ℕ) → 1 ≤ p → o ≤ r → nat_lt r (o + k * p) ≡ nat_le ((r - o) / p + 1) k
        by_quotient o p some late =
            elim (cases_lt (r - o) (k * p)) [
              | inl below ↦
                  let small : (r - o) / p < k = (div-lt_iff_lt-mul some).1 below in
                  lt-ltb r (o + k * p) (omega arith) ∙ sym (le-leb ((r - o) / p + 1) k (omega arith))
              | inr above ↦
                  elim (cases_lt ((r - o) / p) k) [
                    | inl small ↦ let below : r - o < k * p = (div-lt_iff_lt-mul some).0 small in absurd (omega arith)
                    | inr large ↦ le-ltb r (o + k * p) (omega arith) ∙ sym (lt-leb ((r - o) / p + 1) k (omega arith))
                  ]
            ]

module _ (tasks : List Task) where
  -- the points of all jobs before t
  pub points_sum : All (λ task. 1 ≤ length task.cycle) tasks → (t : ℕ) →
      sum_by (points_of tasks) (jobs_before tasks t) ≡ sum_below (λ i. points_of_first (task_at tasks i) (releases (task_at tasks i) t)) (length tasks)
  points_sum some t =
      jobs_sum (points_of tasks) tasks t
      ∙ sum_below-same _ _ (length tasks) (λ i low. points_first (task_at tasks i) (some i _ low) (releases (task_at tasks i) t))

  -- a sum over the jobs of one task
  pub task_sum : (f : Job → ℕ) (i t : ℕ) → i < length tasks →
      sum_by f (filter (λ job. nat_eq job.task i) (jobs_before tasks t)) ≡ sum_below (λ k. f (nth_job tasks i k)) (releases (task_at tasks i) t)
  task_sum f i t low =
      sum_by-filter (λ job. nat_eq job.task i) f (jobs_before tasks t)
      ∙ jobs_sum (λ job. f job * one_if (nat_eq job.task i)) tasks t
      ∙ sum_below-only _ (length tasks) i low (λ m l other. none m (releases (task_at tasks m) t) (ne_eqb m i other))
      ∙ sum_below-same _ _ (releases (task_at tasks i) t) (λ k l. at (f (nth_job tasks i k)) (nat_eq i i) (eq-eqb i i refl))
    where
      at : (n : ℕ) (b : Bool) → b ≡ true → n * one_if b ≡ n
      at n b e = rw e (omega arith)

      without : (n : ℕ) (b : Bool) → b ≡ false → n * one_if b ≡ 0
      without n b e = rw e (omega arith)

      none : (m n : ℕ) → nat_eq m i ≡ false → sum_below (λ k. f (job_of m (task_at tasks m) k) * one_if (nat_eq m i)) n ≡ 0
      none m n e = sum_below-none _ n (λ k l. without (f (job_of m (task_at tasks m) k)) (nat_eq m i) e)

  -- the points of other tasks' jobs released after one time and before another
  pub between_sum : All IsSmall tasks → (i after until : ℕ) →
      sum_by (points_of tasks) (filter (λ other. not (nat_eq other.task i) && nat_lt after other.release) (jobs_before tasks until)) ≡ sum_below (points_of_other tasks i after until) (length tasks)
  between_sum small i after until =
      sum_by-filter (λ other. not (nat_eq other.task i) && nat_lt after other.release) (points_of tasks) (jobs_before tasks until)
      ∙ jobs_sum (λ job. points_of tasks job * one_if (not (nat_eq job.task i) && nat_lt after job.release)) tasks until
      ∙ sum_below-same _ _ (length tasks) (λ m low. each (task_at tasks m) (small m _ low) (nat_eq m i) (releases (task_at tasks m) until))
    where
      each : (task : Task) → IsSmall task → (b : Bool) (n : ℕ) →
          sum_below (λ k. length (table_in task k) * one_if (not b && nat_lt after (task.offset + k * task.period))) n
          ≡ cond b 0 (points_of_first task n - points_of_first task (releases task (after + 1)))
      each task is true n = sum_below-none _ n (λ k l. omega arith)
      each task is false n =
          sum_below-same _ _ n (λ k l. ap (λ b. length (table_in task k) * one_if b) (after_number task is.period after k))
          ∙ sum_below-from (λ k. length (table_in task k)) (releases task (after + 1)) n
          ∙ ap₂ (λ a b. a - b) (points_first task is.some_tables n) (points_first task is.some_tables (releases task (after + 1)))

-- ---- before a horizon of whole periods

module _ (tasks : List Task) (small : All IsSmall tasks) (t : ℕ) where
  -- each task releases once for each of its periods
  pub releases_at_end : (i : ℕ) → i < length tasks → t % (task_at tasks i).period ≡ 0 → releases (task_at tasks i) t ≡ t / (task_at tasks i).period
  releases_at_end i low whole = releases_whole (task_at tasks i) t (small i _ low).offset whole

  pub all_points : All (λ task. t % task.period ≡ 0) tasks → sum_by (λ task. points_of_first task (t / task.period)) tasks ≡ sum_by (points_of tasks) (jobs_before tasks t)
  all_points whole =
      sum_by_places (λ task. points_of_first task (t / task.period)) tasks _
      ∙ sum_below-same _ _ (length tasks) (λ i low. ap (points_of_first (task_at tasks i)) (sym (releases_at_end i low (whole i _ low))))
      ∙ sym (points_sum tasks (All-weaker IsSmall (λ task. 1 ≤ length task.cycle) (λ task h. h.some_tables) tasks small) t)
