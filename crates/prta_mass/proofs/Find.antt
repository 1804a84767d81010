-- The first number of a range that passes a test.
use Rattle.std.proofs.Common.{◌≡◌, ℕ, zero, suc, ◌+◌, ◌<◌, ◌≤◌, Bool, true, false, Some, None, find, refl, arith, inl, inr}
use Rattle.std.specs.List.{range_with_len}
use Rattle.std.proofs.lemmas.Bool.{cases_lt, cases_Bool}

module _ (p : ℕ → Bool) where
  pub find_in_range : (from n i : ℕ) → from ≤ i → i < from + n → ((k : ℕ) → from ≤ k → k < i → p k ≡ false) → p i ≡ true → find p (range_with_len from n) ≡ Some i
  find_in_range from zero i low high before here = absurd (omega arith)
  find_in_range from (suc n) i low high before here =
      elim (cases_lt from i) [
        | inl later ↦ rw (before from (omega arith) later) (find_in_range (from + 1) n i (omega arith) (omega arith) (λ k a b. before k (omega arith) b) here)
        | inr now ↦ let same : i ≡ from = omega arith in let passes = rw same at here in rw (passes, same)
      ]

  pub find_none_in_range : (from n : ℕ) → ((k : ℕ) → from ≤ k → k < from + n → p k ≡ false) → find p (range_with_len from n) ≡ None
  find_none_in_range from zero h = refl
  find_none_in_range from (suc n) h = rw (h from (omega arith) (omega arith)) (find_none_in_range (from + 1) n (λ k a b. h k (omega arith) (omega arith)))

  -- where none is found, none passes
  pub fails_in_range : (from n k : ℕ) → find p (range_with_len from n) ≡ None → from ≤ k → k < from + n → p k ≡ false
  fails_in_range from zero k h low high = absurd (omega arith)
  fails_in_range from (suc n) k h low high =
      elim (cases_Bool (p from)) [
        | inl passes ↦ let found = rw passes at h in cc
        | inr fails ↦ elim (cases_lt from k) [
          | inl later ↦ fails_in_range (from + 1) n k (rw fails at h) (omega arith) (omega arith)
          | inr now ↦ let same : k ≡ from = omega arith in rw same fails
        ]
      ]
