-- The first element that passes a test, number by number.
use Rattle.std.proofs.Common.{◌≡◌, ℕ, suc, ◌+◌, ◌-◌, ◌<◌, Bool, cond, Some, option_map, find, List, [], ◌∷◌, map, flat_map, refl, ap, ◌∙◌, arith, inl, inr}
use Rattle.std.specs.List.{range_with_len}
use Rattle.std.specs.Option.{option_or}
use Rattle.std.proofs.lemmas.Bool.{cases_Bool}
use Rattle.std.proofs.lemmas.List.Folds.{find-append}

-- the first number from i on that passes is i, or else the first one after it
pub found_next : (p : ℕ → Bool) (i n : ℕ) → i < n → find p (range_with_len i (n - i)) ≡ cond (p i) (Some i) (find p (range_with_len (i + 1) (n - (i + 1))))
found_next p i n low = let left : n - i ≡ suc (n - (i + 1)) = omega arith in ap (λ m. find p (range_with_len i m)) left

-- what is found in the lists from number i on is found in that of i, or else in those after it
pub found_from : {B : Type 0} (p : B → Bool) (f : ℕ → List B) (i n : ℕ) → i < n →
    find p (flat_map f (range_with_len i (n - i))) ≡ option_or (find p (f i)) (find p (flat_map f (range_with_len (i + 1) (n - (i + 1)))))
found_from p f i n low =
    let left : n - i ≡ suc (n - (i + 1)) = omega arith in
    ap (λ m. find p (flat_map f (range_with_len i m))) left ∙ find-append p (f i) (flat_map f (range_with_len (i + 1) (n - (i + 1))))

-- what is found among mapped elements is the image of what is found by the same test
pub found_mapped : {A B : Type 0} (p : B → Bool) (f : A → B) (xs : List A) → find p (map f xs) ≡ option_map f (find (λ x. p (f x)) xs)
found_mapped p f [] = refl
found_mapped p f (x ∷ xs) =
    elim (cases_Bool (p (f x))) [
      | inl yes_it ↦ rw yes_it refl
      | inr no_it ↦ rw no_it (found_mapped p f xs)
    ]
