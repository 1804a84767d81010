-- What holds of each element of a list.
use Rattle.std.proofs.Common.{◌≡◌, Bool, true, false, List, [], ◌∷◌, ◌++◌, map, filter, refl}
use Rattle.std.specs.List.{AllByRecursion as Each, list_all}
use Rattle.std.proofs.lemmas.Bool.{and_from}

module _ {X : Type 0} where
  pub Each-append : (P : X → Type 0) (xs ys : List X) → Each P xs → Each P ys → Each P (xs ++ ys)
  Each-append P [] ys p q = q
  Each-append P (x ∷ xs) ys p q = (p.0, Each-append P xs ys p.1 q)

  pub Each-left : (P : X → Type 0) (xs ys : List X) → Each P (xs ++ ys) → Each P xs
  Each-left P [] ys p = tt
  Each-left P (x ∷ xs) ys p = (p.0, Each-left P xs ys p.1)

  pub Each-right : (P : X → Type 0) (xs ys : List X) → Each P (xs ++ ys) → Each P ys
  Each-right P [] ys p = p
  Each-right P (x ∷ xs) ys p = Each-right P xs ys p.1

  pub Each-weaker : (P Q : X → Type 0) → ((x : X) → P x → Q x) → (xs : List X) → Each P xs → Each Q xs
  Each-weaker P Q f [] p = tt
  Each-weaker P Q f (x ∷ xs) p = (f x p.0, Each-weaker P Q f xs p.1)

  pub Each-map : {Y : Type 0} (P : Y → Type 0) (f : X → Y) (xs : List X) → Each (λ x. P (f x)) xs → Each P (map f xs)
  Each-map P f [] p = tt
  Each-map P f (x ∷ xs) p = (p.0, Each-map P f xs p.1)

  pub Each-from_map : {Y : Type 0} (P : Y → Type 0) (f : X → Y) (xs : List X) → Each P (map f xs) → Each (λ x. P (f x)) xs
  Each-from_map P f [] p = tt
  Each-from_map P f (x ∷ xs) p = (p.0, Each-from_map P f xs p.1)

  pub list_all-each : (p : X → Bool) (xs : List X) → Each (λ x. p x ≡ true) xs → list_all p xs ≡ true
  list_all-each p [] h = refl
  list_all-each p (x ∷ xs) h = and_from (p x) (list_all p xs) h.0 (list_all-each p xs h.1)

  pub filter_none : (p : X → Bool) (xs : List X) → Each (λ x. p x ≡ false) xs → filter p xs ≡ []
  filter_none p [] h = refl
  filter_none p (x ∷ xs) h = let no : p x ≡ false = h.0 in rw no (filter_none p xs h.1)
