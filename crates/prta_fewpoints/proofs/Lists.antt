-- What holds of each element, of each and every later one, and of some element, by recursion over the list.
use Rattle.std.proofs.Common.{◌≡◌, ℕ, zero, suc, ◌+◌, ◌<◌, ◌⊎◌, inl, inr, List, [], ◌∷◌, map, sum_by, length, get_or, Contains, refl, ap, subst, arith, ⊎_elim}
use Rattle.std.specs.List.{AllByRecursion}
use Rattle.std.specs.List.Sorted.{IsStrictlyIncreasing}
use Rattle.std.proofs.lemmas.List.Elements.{recursion_from_All}
use Rattle.std.proofs.lemmas.List.Kept.{AllPairs-from_increasing}
use Rattle.std.proofs.lemmas.List.Sums.{sum_by-cons}

abbrev pub Each : {X : Type 0} → (X → Type 0) → List X → Type 0
Each P xs = AllByRecursion P xs

abbrev pub Pairs : {X : Type 0} → (X → X → Type 0) → List X → Type 0
Pairs R [] = Unit {0}
Pairs R (x ∷ xs) = Each (R x) xs × Pairs R xs

abbrev pub AnyOf : {X : Type 0} → (X → Type 0) → List X → Type 0
AnyOf P [] = ⊥
AnyOf P (x ∷ xs) = P x ⊎ AnyOf P xs

module _ {X : Type 0} where
  pub Each-weaker : (P Q : X → Type 0) → ((x : X) → P x → Q x) → (xs : List X) → Each P xs → Each Q xs
  Each-weaker P Q f [] p = tt
  Each-weaker P Q f (x ∷ xs) p = (f x p.0, Each-weaker P Q f xs p.1)

  pub Each_both : (P Q R : X → Type 0) → ((x : X) → P x → Q x → R x) → (xs : List X) → Each P xs → Each Q xs → Each R xs
  Each_both P Q R f [] p q = tt
  Each_both P Q R f (x ∷ xs) p q = (f x p.0 q.0, Each_both P Q R f xs p.1 q.1)

  pub Each_all : (P : X → Type 0) → ((x : X) → P x) → (xs : List X) → Each P xs
  Each_all P f [] = tt
  Each_all P f (x ∷ xs) = (f x, Each_all P f xs)

  pub Each-map : {Y : Type 0} (g : X → Y) (P : Y → Type 0) (xs : List X) → Each (λ x. P (g x)) xs → Each P (map g xs)
  Each-map g P [] h = tt
  Each-map g P (x ∷ xs) h = (h.0, Each-map g P xs h.1)

  pub Each_unmapped : {Y : Type 0} (g : X → Y) (P : Y → Type 0) (xs : List X) → Each P (map g xs) → Each (λ x. P (g x)) xs
  Each_unmapped g P [] h = tt
  Each_unmapped g P (x ∷ xs) h = (h.0, Each_unmapped g P xs h.1)

  pub Pairs_unmapped : {Y : Type 0} (g : X → Y) (R : Y → Y → Type 0) (xs : List X) → Pairs R (map g xs) → Pairs (λ a b. R (g a) (g b)) xs
  Pairs_unmapped g R [] h = tt
  Pairs_unmapped g R (x ∷ xs) h = (Each_unmapped g (R (g x)) xs h.0, Pairs_unmapped g R xs h.1)

  pub AnyOf-weaker : (P Q : X → Type 0) → ((x : X) → P x → Q x) → (xs : List X) → AnyOf P xs → AnyOf Q xs
  AnyOf-weaker P Q f [] h = absurd h
  AnyOf-weaker P Q f (x ∷ xs) h = ⊎_elim (λ (p : P x). inl (f x p)) (λ (t : AnyOf P xs). inr (AnyOf-weaker P Q f xs t)) h

  pub AnyOf_gives : (P Q : X → Type 0) (R : Type 0) (xs : List X) → Each P xs → AnyOf Q xs → ((x : X) → P x → Q x → R) → R
  AnyOf_gives P Q R [] p q f = absurd q
  AnyOf_gives P Q R (x ∷ xs) p q f = ⊎_elim (λ (a : Q x). f x p.0 a) (λ (b : AnyOf Q xs). AnyOf_gives P Q R xs p.1 b f) q

  pub AnyOf-map : {Y : Type 0} (g : X → Y) (P : Y → Type 0) (xs : List X) → AnyOf (λ x. P (g x)) xs → AnyOf P (map g xs)
  AnyOf-map g P [] h = h
  AnyOf-map g P (x ∷ xs) h = ⊎_elim (λ (p : P (g x)). inl p) (λ (t : AnyOf (λ x. P (g x)) xs). inr (AnyOf-map g P xs t)) h

  pub AnyOf_unmapped : {Y : Type 0} (g : X → Y) (P : Y → Type 0) (xs : List X) → AnyOf P (map g xs) → AnyOf (λ x. P (g x)) xs
  AnyOf_unmapped g P [] h = h
  AnyOf_unmapped g P (x ∷ xs) h = ⊎_elim (λ (p : P (g x)). inl p) (λ (t : AnyOf P (map g xs)). inr (AnyOf_unmapped g P xs t)) h

  -- an element of a list, by its place
  pub AnyOf-from_contains : (xs : List X) (x : X) → Contains xs x → AnyOf (λ y. y ≡ x) xs
  AnyOf-from_contains xs x h = at xs h.0 h.1 h.2
    where
      at : (ys : List X) (k : ℕ) → k < length ys → get_or ys k x ≡ x → AnyOf (λ y. y ≡ x) ys
      at [] k l e = absurd (omega arith)
      at (y ∷ ys) zero l e = inl e
      at (y ∷ ys) (suc k) l e = inr (at ys k (omega arith) e)

  pub contains_from_AnyOf : (xs : List X) (x : X) → AnyOf (λ y. y ≡ x) xs → Contains xs x
  contains_from_AnyOf [] x h = absurd h
  contains_from_AnyOf (y ∷ xs) x h = ⊎_elim
      (λ (e : y ≡ x). (0, omega arith, e))
      (λ (t : AnyOf (λ y. y ≡ x) xs). let r : Contains xs x = contains_from_AnyOf xs x t in (suc r.0, omega (arith, r.1), r.2))
      h

  pub size-map : {Y : Type 0} (g : X → Y) (xs : List X) → length (map g xs) ≡ length xs
  size-map g [] = refl
  size-map g (x ∷ xs) = ap suc (size-map g xs)

  -- two sums agree where the terms do
  pub sum_by-each : (f g : X → ℕ) (xs : List X) → Each (λ x. f x ≡ g x) xs → sum_by f xs ≡ sum_by g xs
  sum_by-each f g [] h = refl
  sum_by-each f g (x ∷ xs) h = omega (arith, sum_by-cons f x xs, sum_by-cons g x xs, sum_by-each f g xs h.1, h.0)

-- ---- rising numbers

tail_rises : (x : ℕ) (xs : List ℕ) → IsStrictlyIncreasing (x ∷ xs) → IsStrictlyIncreasing xs
tail_rises x xs h k l =
    let e : suc k + 1 ≡ suc (k + 1) = omega arith in
    subst (λ i. get_or xs k 0 < get_or (x ∷ xs) i 0) e (h (suc k) (omega arith))

pub Pairs-from_increasing : (xs : List ℕ) → IsStrictlyIncreasing xs → Pairs (λ a b. a < b) xs
Pairs-from_increasing [] h = tt
Pairs-from_increasing (x ∷ xs) h = (
  recursion_from_All (λ b. x < b) xs (λ k d l. AllPairs-from_increasing (x ∷ xs) h 0 (suc k) d (omega arith) (omega arith)),
  Pairs-from_increasing xs (tail_rises x xs h),
)

pub increasing_from_Pairs : (xs : List ℕ) → Pairs (λ a b. a < b) xs → IsStrictlyIncreasing xs
increasing_from_Pairs [] h k l = absurd (omega arith)
increasing_from_Pairs (x ∷ []) h k l = absurd (omega arith)
increasing_from_Pairs (x ∷ y ∷ xs) h zero l = (h.0).0
increasing_from_Pairs (x ∷ y ∷ xs) h (suc k) l =
    let e : suc (k + 1) ≡ suc k + 1 = omega arith in
    subst (λ i. get_or (y ∷ xs) k 0 < get_or (x ∷ y ∷ xs) i 0) e (increasing_from_Pairs (y ∷ xs) h.1 k (omega arith))
