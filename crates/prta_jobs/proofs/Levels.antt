-- What is found of a level, task by task.
use Rattle.std.proofs.Common.{◌≡◌, ℕ, ◌+◌, ◌<◌, ◌≤◌, ◌^◌, Bool, true, false, ◌&&◌, min, List, length, refl, arith, inl, inr, ◌⊎◌}
use Rattle.std.proofs.lemmas.Bool.{cases_lt, and_from, and_right, both_ways}
use Rattle.prta_sheet.specs.Sheet.{Task, task_at}
use Rattle.prta_sheet.specs.Job.{is_release}
use Rattle.prta_jobs.specs.Instant.{IsNextRelease, is_released, IsOnSheet, HasTask, IsLeastRelease}

-- no task past the sheet is of a level on the sheet
none_past : (tasks : List Task) (level : ℕ → Bool) → IsOnSheet tasks level → (t k : ℕ) → length tasks ≤ k → is_released tasks level t k ≡ false
none_past tasks level on t k past = by_flag (level k) refl
  where
    by_flag : (b : Bool) → level k ≡ b → (level k && is_release (task_at tasks k) t) ≡ false
    by_flag true e = let low : k < length tasks = on k e in absurd (omega arith)
    by_flag false e = rw e refl

-- ---- the least release of the tasks so far

-- of the first i tasks, the least release from a time on of those of the level; past every time where none of them is
pub record IsLeastSoFar (tasks : List Task) (level : ℕ → Bool) (from i at : ℕ) : Type 0 where
  pub reached : from ≤ at
  pub some : (2 ^ 64 ≤ at + 1) ⊎ HasTask (is_released tasks level at)
  pub least : (t : ℕ) → from ≤ t → t < at → (k : ℕ) → k < i → is_released tasks level t k ≡ false

module _ (tasks : List Task) (level : ℕ → Bool) (from i at : ℕ) where
  pub least_without : IsLeastSoFar tasks level from i at → level i ≡ false → IsLeastSoFar tasks level from (i + 1) at
  least_without before fails = record {
    reached = before.reached;
    some = before.some;
    least = λ t low high k below.
        elim (cases_lt k i) [
          | inl earlier ↦ before.least t low high k earlier
          | inr here ↦ let e : k ≡ i = omega arith in rw e (rw fails refl)
        ];
  }

  pub least_with : IsLeastSoFar tasks level from i at → level i ≡ true → (next : ℕ) → IsNextRelease (task_at tasks i) from next → IsLeastSoFar tasks level from (i + 1) (min at next)
  least_with before holds next is =
      elim (cases_lt next at) as (λ _. IsLeastSoFar tasks level from (i + 1) (min at next)) [
        | inl sooner ↦ let e : min at next ≡ next = omega arith in rw e (taken sooner)
        | inr later ↦ let e : min at next ≡ at = omega arith in rw e (kept later)
      ]
    where
      at_i : (t : ℕ) → from ≤ t → t < next → (k : ℕ) → k ≡ i → is_released tasks level t k ≡ false
      at_i t low high k e = rw (e, is.least t low high) (and_right (level i) false refl)

      below_next : (t m : ℕ) → m ≤ at → m ≤ next → from ≤ t → t < m → (k : ℕ) → k < i + 1 → is_released tasks level t k ≡ false
      below_next t m a b low high k below =
          elim (cases_lt k i) [
            | inl earlier ↦ before.least t low (omega arith) k earlier
            | inr here ↦ at_i t low (omega arith) k (omega arith)
          ]

      taken : next < at → IsLeastSoFar tasks level from (i + 1) next
      taken sooner = record {
        reached = is.reached;
        some = inr (i, and_from (level i) (is_release (task_at tasks i) next) holds is.release);
        least = λ t low high k below. below_next t next (omega arith) (omega arith) low high k below;
      }

      kept : at ≤ next → IsLeastSoFar tasks level from (i + 1) at
      kept later = record {
        reached = before.reached;
        some = before.some;
        least = λ t low high k below. below_next t at (omega arith) (omega arith) low high k below;
      }

  -- where a task of the level releases a job soon, the least release of all tasks was found
  pub least_found : IsOnSheet tasks level → IsLeastSoFar tasks level from i at → length tasks ≤ i →
      (k : ℕ) → level k ≡ true → (next : ℕ) → IsNextRelease (task_at tasks k) from next → next + 1 < 2 ^ 64 → IsLeastRelease tasks level from at
  least_found on found past k holds next is soon = record {
    reached = found.reached;
    some =
        elim found.some [
          | inl big ↦
              let early : next < at = omega arith in
              let not_yet : is_released tasks level next k ≡ false = found.least next is.reached early k (omega (arith, on k holds)) in
              let now : is_released tasks level next k ≡ true = and_from (level k) (is_release (task_at tasks k) next) holds is.release in
              absurd (both_ways (is_released tasks level next k) not_yet now)
          | inr some ↦ some
        ];
    least = λ t low high k'.
        elim (cases_lt k' i) [
          | inl below ↦ found.least t low high k' below
          | inr above ↦ none_past tasks level on t k' (omega arith)
        ];
  }

-- it is no later than the next release of any task of the level
pub least_before : (tasks : List Task) (level : ℕ → Bool) (from at : ℕ) → IsLeastRelease tasks level from at →
    (k : ℕ) → level k ≡ true → (next : ℕ) → IsNextRelease (task_at tasks k) from next → at ≤ next
least_before tasks level from at least k holds next is =
    elim (cases_lt next at) [
      | inl early ↦ absurd (both_ways (is_released tasks level next k) (least.least next is.reached early k) (and_from (level k) (is_release (task_at tasks k) next) holds is.release))
      | inr late ↦ late
    ]
