-- The first place at which a test passes.
use Rattle.std.proofs.Common.{◌≡◌, ℕ, ◌<◌, Bool, true, false, not, Some, None, List, length, get_or, position, refl, arith, inl, inr}
use Rattle.std.specs.Option.{unwrap_or}
use Rattle.std.specs.List.{position_or_len}
use Rattle.std.proofs.lemmas.Bool.{cases_lt, lt-ltb, le-ltb}
use Rattle.std.proofs.lemmas.List.Sums.{position_or_len_is, prefix_len-le-length, fails_before_first}

module _ {X : Type 0} (p : X → Bool) (xs : List X) where
  pub position_else_length : unwrap_or (position p xs) (length xs) ≡ position_or_len p xs
  position_else_length =
      elim (cases_lt (position_or_len p xs) (length xs)) [
        | inl within ↦ rw (lt-ltb (position_or_len p xs) (length xs) within) refl
        | inr past ↦ rw (le-ltb (position_or_len p xs) (length xs) past) (omega (arith, prefix_len-le-length (λ x. not (p x)) xs))
      ]

  -- a place at which it passes, after others at which it fails
  pub position_here : (k : ℕ) (d : X) → k < length xs → p (get_or xs k d) ≡ true → ((i : ℕ) → i < k → p (get_or xs i d) ≡ false) → position p xs ≡ Some k
  position_here k d low here before =
      let at : position_or_len p xs ≡ k = position_or_len_is p xs k d (omega arith) before (λ l. here) in
      rw (at, lt-ltb k (length xs) low) refl

  -- it fails at each place
  pub position_nowhere : (d : X) → ((i : ℕ) → i < length xs → p (get_or xs i d) ≡ false) → position p xs ≡ None
  position_nowhere d fails =
      let at : position_or_len p xs ≡ length xs = position_or_len_is p xs (length xs) d (omega arith) fails (λ l. absurd (omega arith)) in
      rw (at, le-ltb (length xs) (length xs) (omega arith)) refl

  -- where none is found, it fails at each place
  pub nowhere_fails : (d : X) → position p xs ≡ None → (i : ℕ) → i < length xs → p (get_or xs i d) ≡ false
  nowhere_fails d none i low =
      elim (cases_lt (position_or_len p xs) (length xs)) [
        | inl within ↦ let found = rw (lt-ltb (position_or_len p xs) (length xs) within) at none in cc
        | inr past ↦ fails_before_first p xs i d (omega arith)
      ]

  -- the place found
  pub position_found : (k : ℕ) → position p xs ≡ Some k → (position_or_len p xs ≡ k) × (k < length xs)
  position_found k found =
      elim (cases_lt (position_or_len p xs) (length xs)) [
        | inl within ↦ let here : Some (position_or_len p xs) ≡ Some k = rw (lt-ltb (position_or_len p xs) (length xs) within) at found in let same : position_or_len p xs ≡ k = cc in (same, omega arith)
        | inr past ↦ let none = rw (le-ltb (position_or_len p xs) (length xs) past) at found in cc
      ]
