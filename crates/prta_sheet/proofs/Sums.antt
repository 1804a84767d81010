-- Sums over a list.
use Rattle.std.proofs.Common.{◌≡◌, ℕ, ◌+◌, ◌*◌, Bool, true, false, cond, List, [], ◌∷◌, map, filter, flat_map, sum_by, refl, ap, arith}
use Rattle.std.proofs.lemmas.List.Sums.{sum_by-cons, sum_by-append}
use Rattle.prta_sheet.specs.Weights.{one_if}

module _ {X : Type 0} where
  pub sum_by-same : (f g : X → ℕ) → ((x : X) → f x ≡ g x) → (xs : List X) → sum_by f xs ≡ sum_by g xs
  sum_by-same f g e [] = refl
  sum_by-same f g e (x ∷ xs) = omega (arith, sum_by-cons f x xs, sum_by-cons g x xs, sum_by-same f g e xs, e x)

  pub sum_by-times : (k : ℕ) (f : X → ℕ) (xs : List X) → sum_by (λ x. k * f x) xs ≡ k * sum_by f xs
  sum_by-times k f [] = omega arith
  sum_by-times k f (x ∷ xs) = omega (arith, sum_by-cons f x xs, sum_by-cons (λ x. k * f x) x xs, sum_by-times k f xs, ap (λ s. k * s) (sum_by-cons f x xs))

  pub sum_by-map : {Y : Type 0} (f : Y → ℕ) (g : X → Y) (xs : List X) → sum_by f (map g xs) ≡ sum_by (λ x. f (g x)) xs
  sum_by-map f g [] = refl
  sum_by-map f g (x ∷ xs) = omega (arith, sum_by-cons f (g x) (map g xs), sum_by-cons (λ x. f (g x)) x xs, sum_by-map f g xs)

  pub sum_by-flat_map : {Y : Type 0} (f : Y → ℕ) (g : X → List Y) (xs : List X) → sum_by f (flat_map g xs) ≡ sum_by (λ x. sum_by f (g x)) xs
  sum_by-flat_map f g [] = refl
  sum_by-flat_map f g (x ∷ xs) = omega (arith, sum_by-append f (g x) (flat_map g xs), sum_by-cons (λ x. sum_by f (g x)) x xs, sum_by-flat_map f g xs)

  -- the sum over what passes a test
  pub sum_by-filter : (p : X → Bool) (f : X → ℕ) (xs : List X) → sum_by f (filter p xs) ≡ sum_by (λ x. f x * one_if (p x)) xs
  sum_by-filter p f [] = refl
  sum_by-filter p f (x ∷ xs) =
      let ih : sum_by f (filter p xs) ≡ sum_by (λ x. f x * one_if (p x)) xs = sum_by-filter p f xs in
      rw (sum_by-cons (λ x. f x * one_if (p x)) x xs)
      (elim (p x) as (λ b. sum_by f (cond b (x ∷ filter p xs) (filter p xs)) ≡ f x * one_if b + sum_by (λ x. f x * one_if (p x)) xs) [
        | true ↦ omega (arith, sum_by-cons f x (filter p xs), ih)
        | false ↦ omega (arith, ih)
      ])
