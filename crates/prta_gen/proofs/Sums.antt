-- Bounds of sums, and what holds at any place.
use Rattle.std.proofs.Common.{ℕ, zero, suc, ◌*◌, ◌<◌, ◌≤◌, List, length, get_or, All, sym, subst, arith, inl, inr}
use Rattle.std.proofs.lemmas.Bool.{cases_lt}
use Rattle.std.proofs.lemmas.List.{get_or_past}
use Rattle.prta_sheet.proofs.Below.{sum_below}

pub sum_below-within : (f : ℕ → ℕ) (most n : ℕ) → ((k : ℕ) → k < n → f k ≤ most) → sum_below f n ≤ n * most
sum_below-within f most zero h = omega arith
sum_below-within f most (suc n) h = omega (arith, sum_below-within f most n (λ k low. h k (omega arith)), h n (omega arith))

-- what holds of each element and of what stands past them
pub at_any : {X : Type 0} (P : X → Type 0) (xs : List X) (d : X) → All P xs → P d → (i : ℕ) → P (get_or xs i d)
at_any P xs d h past i =
    elim (cases_lt i (length xs)) [
      | inl low ↦ h i d low
      | inr high ↦ subst P (sym (get_or_past xs i d high)) past
    ]
