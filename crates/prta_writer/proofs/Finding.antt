-- Where no element of joined lists passes a test.
use Rattle.std.proofs.Common.{◌≡◌, Bool, false, Option, Some, None, find, List, [], ◌∷◌, flat_map, All, refl, sym, ◌∙◌, inl, inr}
use Rattle.std.specs.Option.{option_or}
use Rattle.std.proofs.lemmas.Bool.{cases_Bool}
use Rattle.std.proofs.lemmas.List.Elements.{All-nil, All-cons}
use Rattle.std.proofs.lemmas.List.Folds.{find-append}

-- where nothing is found, no element passes
pub none_passes : {A : Type 0} (p : A → Bool) (xs : List A) → find p xs ≡ None → All (λ x. p x ≡ false) xs
none_passes p [] none = All-nil (λ x. p x ≡ false)
none_passes p (x ∷ xs) none =
    elim (cases_Bool (p x)) [
      | inl passes ↦ let found = rw passes at none in cc
      | inr fails ↦ All-cons (λ x. p x ≡ false) x xs fails (none_passes p xs (rw fails at none))
    ]

-- ---- joined lists

neither : {A : Type 0} (a b : Option A) → option_or a b ≡ None → (a ≡ None) × (b ≡ None)
neither None b none = (refl, none)
neither (Some x) b none = cc

-- where nothing is found in joined lists, nothing is in any of them
pub none_in_each : {A B : Type 0} (p : B → Bool) (f : A → List B) (xs : List A) → find p (flat_map f xs) ≡ None → All (λ x. find p (f x) ≡ None) xs
none_in_each p f [] none = All-nil (λ x. find p (f x) ≡ None)
none_in_each p f (x ∷ xs) none =
    let both = neither (find p (f x)) (find p (flat_map f xs)) (sym (find-append p (f x) (flat_map f xs)) ∙ none) in
    All-cons (λ x. find p (f x) ≡ None) x xs both.0 (none_in_each p f xs both.1)
