-- How many jobs modest tasks release.
use Rattle.std.proofs.Common.{◌≡◌, ℕ, ◌+◌, ◌-◌, ◌*◌, ◌/◌, ◌%◌, ◌<◌, ◌≤◌, true, false, cond, nat_le, List, length, get_or, All, ap, ◌∙◌, arith, inl, inr, mul-le-mul_left}
use Rattle.std.proofs.lemmas.Bool.{cases_lt, le-leb, lt-leb}
use Rattle.std.proofs.Math.Nat.{div-lt_iff_lt-mul}
use Rattle.prta_sheet.specs.Sheet.{Task, task_at, cycle_ticks, hyperperiod}
use Rattle.prta_sheet.specs.Job.{jobs_before}
use Rattle.prta_sheet.specs.Counts.{releases}
use Rattle.prta_sheet.proofs.JobSums.{jobs_length}
use Rattle.prta_sheet.proofs.Multiples.{hyperperiod_is_least}
use Rattle.prta_gen.proofs.Tasks.{IsModest}
use Rattle.prta_gen.proofs.Sums.{sum_below-within}

-- a release for each 50 ticks at most
pub releases_within : (task : Task) (t m : ℕ) → 50 ≤ task.period → t ≤ 50 * m → releases task t ≤ m
releases_within task t m = within task.offset task.period
  where
    within : (o p : ℕ) → 50 ≤ p → t ≤ 50 * m → cond (nat_le t o) 0 ((t - o - 1) / p + 1) ≤ m
    within o p long early =
        elim (cases_lt o t) [
          | inl after ↦
              let b : nat_le t o ≡ false = lt-leb t o after in
              let some : 0 < p = omega arith in
              let inside : t - o - 1 < m * p = omega (arith, mul-le-mul_left m long) in
              let few : (t - o - 1) / p < m = (div-lt_iff_lt-mul some).1 inside in
              rw b (omega arith)
          | inr before ↦ let b : nat_le t o ≡ true = le-leb t o before in rw b (omega arith)
        ]

-- a job that is released before a time
pub release_early : (task : Task) (t k : ℕ) → 50 ≤ task.period → k < releases task t → task.offset + k * task.period < t
release_early task t k = early task.offset task.period
  where
    early : (o p : ℕ) → 50 ≤ p → k < cond (nat_le t o) 0 ((t - o - 1) / p + 1) → o + k * p < t
    early o p long low =
        elim (cases_lt o t) [
          | inl after ↦
              let b : nat_le t o ≡ false = lt-leb t o after in
              let some : 0 < p = omega arith in
              let below : k < (t - o - 1) / p + 1 = rw b at low in
              elim (cases_lt (t - o - 1) (k * p)) [
                | inl past ↦ let fewer : (t - o - 1) / p < k = (div-lt_iff_lt-mul some).1 past in absurd (omega arith)
                | inr inside ↦ omega arith
              ]
          | inr before ↦
              let b : nat_le t o ≡ true = le-leb t o before in
              let none : k < 0 = rw b at low in
              absurd (omega arith)
        ]

module _ (tasks : List Task) (are : All IsModest tasks) where
  ticks_are : (k : ℕ) (d : Task) → k < length tasks → cycle_ticks (get_or tasks k d) ≡ (get_or tasks k d).period
  ticks_are k d low =
      let task : Task = get_or tasks k d in
      ap (λ n. task.period * n) (are k d low).one_table ∙ omega arith

  -- 400 ticks are whole periods of each task
  pub short_hyperperiod : hyperperiod tasks ≤ 400
  short_hyperperiod =
      let some : All (λ task. 1 ≤ cycle_ticks task) tasks = λ k d low. let ticks = ticks_are k d low in let least = (are k d low).period.low in omega arith in
      (hyperperiod_is_least tasks some).least 400 (omega arith) (λ k d low. ap (λ n. 400 % n) (ticks_are k d low) ∙ (are k d low).period.divides)

  pub jobs_within : (t m : ℕ) → length tasks ≤ 12 → t ≤ 50 * m → length (jobs_before tasks t) ≤ 12 * m
  jobs_within t m few early =
      let each = sum_below-within (λ i. releases (task_at tasks i) t) m (length tasks) (λ i low. releases_within (task_at tasks i) t m (are i _ low).period.low early) in
      omega (arith, jobs_length tasks t, each, mul-le-mul_left m few)
