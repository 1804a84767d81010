-- What holds of each element of a list, and of each with every later one.
use Rattle.std.proofs.Common.{◌≡◌, Bool, true, false, cond, List, [], ◌∷◌, ◌++◌, map, filter, AllPairs, refl, ap, ap₂, arith}
use Rattle.std.specs.List.{AllByRecursion as Each}
use Rattle.std.proofs.lemmas.Bool.{both_ways}
use Rattle.std.proofs.lemmas.List.Elements.{All-from_recursion, recursion_from_All, All-weaker, All-filter, filter_passes}
use Rattle.std.proofs.lemmas.List.Kept.{AllPairs-cons}

-- of each element and each later one
abbrev pub Pairs : {X : Type 0} → (X → X → Type 0) → List X → Type 0
Pairs R [] = Unit {0}
Pairs R (x ∷ xs) = Each (R x) xs × Pairs R xs

module _ {X : Type 0} where
  pub Each-append : (P : X → Type 0) (xs ys : List X) → Each P xs → Each P ys → Each P (xs ++ ys)
  Each-append P [] ys p q = q
  Each-append P (x ∷ xs) ys p q = (p.0, Each-append P xs ys p.1 q)

  pub Each-weaker : (P Q : X → Type 0) → ((x : X) → P x → Q x) → (xs : List X) → Each P xs → Each Q xs
  Each-weaker P Q f [] p = tt
  Each-weaker P Q f (x ∷ xs) p = (f x p.0, Each-weaker P Q f xs p.1)

  pub Each-both : (P Q : X → Type 0) (xs : List X) → Each P xs → Each Q xs → Each (λ x. P x × Q x) xs
  Each-both P Q [] p q = tt
  Each-both P Q (x ∷ xs) p q = ((p.0, q.0), Each-both P Q xs p.1 q.1)

  pub Each-from_map : {Y : Type 0} (P : Y → Type 0) (f : X → Y) (xs : List X) → Each P (map f xs) → Each (λ x. P (f x)) xs
  Each-from_map P f [] p = tt
  Each-from_map P f (x ∷ xs) p = (p.0, Each-from_map P f xs p.1)

  Each-filter : (p : X → Bool) (P : X → Type 0) (xs : List X) → Each P xs → Each P (filter p xs)
  Each-filter p P xs h = recursion_from_All P (filter p xs) (All-filter p P xs (All-from_recursion P xs h))

  -- what passes a test passes it
  pub Each_passes : (p : X → Bool) (P : X → Type 0) → ((x : X) → p x ≡ true → P x) → (xs : List X) → Each P (filter p xs)
  Each_passes p P f xs = recursion_from_All P (filter p xs) (All-weaker (λ x. p x ≡ true) P f (filter p xs) (filter_passes p xs))

  -- the same by places
  pub AllPairs-from_pairs : (R : X → X → Type 0) (xs : List X) → Pairs R xs → AllPairs R xs
  AllPairs-from_pairs R [] h = λ i j d before low. absurd (omega arith)
  AllPairs-from_pairs R (x ∷ xs) h = AllPairs-cons R x xs (All-from_recursion (R x) xs h.0) (AllPairs-from_pairs R xs h.1)

  pub Pairs-append : (R : X → X → Type 0) (xs ys : List X) → Pairs R xs → Pairs R ys → Each (λ x. Each (R x) ys) xs → Pairs R (xs ++ ys)
  Pairs-append R [] ys p q h = q
  Pairs-append R (x ∷ xs) ys p q h = (Each-append (R x) xs ys p.0 h.0, Pairs-append R xs ys p.1 q h.1)

  -- a relation that follows from another, for elements of which something holds
  pub Pairs-weaker : (P : X → Type 0) (R S : X → X → Type 0) → ((x y : X) → P x → P y → R x y → S x y) → (xs : List X) → Each P xs → Pairs R xs → Pairs S xs
  Pairs-weaker P R S f [] p h = tt
  Pairs-weaker P R S f (x ∷ xs) p h =
      (Each-weaker (λ y. P y × R x y) (S x) (λ y both. f x y p.0 both.0 both.1) xs (Each-both P (R x) xs p.1 h.0), Pairs-weaker P R S f xs p.1 h.1)

  pub Pairs-from_map : {Y : Type 0} (R : Y → Y → Type 0) (f : X → Y) (xs : List X) → Pairs R (map f xs) → Pairs (λ a b. R (f a) (f b)) xs
  Pairs-from_map R f [] h = tt
  Pairs-from_map R f (x ∷ xs) h = (Each-from_map (R (f x)) f xs h.0, Pairs-from_map R f xs h.1)

  pub Pairs-filter : (p : X → Bool) (R : X → X → Type 0) (xs : List X) → Pairs R xs → Pairs R (filter p xs)
  Pairs-filter p R [] h = tt
  Pairs-filter p R (x ∷ xs) h = elim (p x) as (λ b. Pairs R (cond b (x ∷ filter p xs) (filter p xs))) [ true ↦ (Each-filter p (R x) xs h.0, Pairs-filter p R xs h.1) | false ↦ Pairs-filter p R xs h.1 ]

  pub filter_none : (p : X → Bool) (xs : List X) → Each (λ x. p x ≡ false) xs → filter p xs ≡ []
  filter_none p [] h = refl
  filter_none p (x ∷ xs) h = let fails : p x ≡ false = h.0 in rw fails (filter_none p xs h.1)

  pub filter_all : (p : X → Bool) (xs : List X) → Each (λ x. p x ≡ true) xs → filter p xs ≡ xs
  filter_all p [] h = refl
  filter_all p (x ∷ xs) h = let passes : p x ≡ true = h.0 in rw passes (ap (λ ys. x ∷ ys) (filter_all p xs h.1))

  -- of two tests in turn, where what passes the outer one passes the inner one, the outer one decides
  pub filter_inner : (p q : X → Bool) → ((x : X) → p x ≡ true → q x ≡ true) → (xs : List X) → filter p (filter q xs) ≡ filter p xs
  filter_inner p q implies [] = refl
  filter_inner p q implies (x ∷ xs) = by_flags (q x) (p x) refl refl (filter_inner p q implies xs)
    where
      by_flags : (b c : Bool) → q x ≡ b → p x ≡ c → filter p (filter q xs) ≡ filter p xs → filter p (cond (q x) (x ∷ filter q xs) (filter q xs)) ≡ cond (p x) (x ∷ filter p xs) (filter p xs)
      by_flags true true e f rest = rw (e, f) (ap (λ ys. x ∷ ys) rest)
      by_flags true false e f rest = rw (e, f) rest
      by_flags false true e f rest = absurd (both_ways (q x) e (implies x f))
      by_flags false false e f rest = rw (e, f) rest

  -- a change that a test doesn't see can come after the test
  pub filter_map : (p : X → Bool) (f g : X → X) → ((x : X) → f x ≡ g x) → ((x : X) → p (g x) ≡ p x) → (xs : List X) → map f (filter p xs) ≡ filter p (map g xs)
  filter_map p f g same unseen [] = refl
  filter_map p f g same unseen (x ∷ xs) =
      let rest : map f (filter p xs) ≡ filter p (map g xs) = filter_map p f g same unseen xs in
      rw (unseen x)
      (elim (p x) as (λ b. map f (cond b (x ∷ filter p xs) (filter p xs)) ≡ cond b (g x ∷ filter p (map g xs)) (filter p (map g xs))) [
        | true ↦ ap₂ (λ (y : X) (ys : List X). y ∷ ys) (same x) rest
        | false ↦ rest
      ])
