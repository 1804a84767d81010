-- Sums over a list.
use Rattle.std.proofs.Common.{◌≡◌, ℕ, ◌+◌, Bool, true, false, cond, List, [], ◌∷◌, get_or, map, filter, sum_by, refl, arith}
use Rattle.std.specs.List.{AllByRecursion as Each}
use Rattle.std.proofs.lemmas.List.Elements.{recursion_from_All}
use Rattle.std.proofs.lemmas.List.Sums.{sum_by-cons}

module _ {X : Type 0} where
  -- two sums agree where the terms do
  pub sum_by-each : (f g : X → ℕ) (xs : List X) → Each (λ x. f x ≡ g x) xs → sum_by f xs ≡ sum_by g xs
  sum_by-each f g [] h = refl
  sum_by-each f g (x ∷ xs) h = omega (arith, sum_by-cons f x xs, sum_by-cons g x xs, sum_by-each f g xs h.1, h.0)

  pub sum_by-same : (f g : X → ℕ) → ((x : X) → f x ≡ g x) → (xs : List X) → sum_by f xs ≡ sum_by g xs
  sum_by-same f g same xs = sum_by-each f g xs (recursion_from_All (λ x. f x ≡ g x) xs (λ k d low. same (get_or xs k d)))

  pub sum_by-none : (f : X → ℕ) (xs : List X) → Each (λ x. f x ≡ 0) xs → sum_by f xs ≡ 0
  sum_by-none f [] h = refl
  sum_by-none f (x ∷ xs) h = omega (arith, sum_by-cons f x xs, sum_by-none f xs h.1, h.0)

  pub sum_by-plus : (f g : X → ℕ) (xs : List X) → sum_by (λ x. f x + g x) xs ≡ sum_by f xs + sum_by g xs
  sum_by-plus f g [] = refl
  sum_by-plus f g (x ∷ xs) = omega (arith, sum_by-cons f x xs, sum_by-cons g x xs, sum_by-cons (λ x. f x + g x) x xs, sum_by-plus f g xs)

  pub sum_by-map : {Y : Type 0} (f : Y → ℕ) (g : X → Y) (xs : List X) → sum_by f (map g xs) ≡ sum_by (λ x. f (g x)) xs
  sum_by-map f g [] = refl
  sum_by-map f g (x ∷ xs) = omega (arith, sum_by-cons f (g x) (map g xs), sum_by-cons (λ x. f (g x)) x xs, sum_by-map f g xs)

  -- the sum over what passes a test
  pub sum_by-filter : (p : X → Bool) (f : X → ℕ) (xs : List X) → sum_by f (filter p xs) ≡ sum_by (λ x. cond (p x) (f x) 0) xs
  sum_by-filter p f [] = refl
  sum_by-filter p f (x ∷ xs) =
      let rest : sum_by f (filter p xs) ≡ sum_by (λ x. cond (p x) (f x) 0) xs = sum_by-filter p f xs in
      rw (sum_by-cons (λ x. cond (p x) (f x) 0) x xs)
      (elim (p x) as (λ b. sum_by f (cond b (x ∷ filter p xs) (filter p xs)) ≡ cond b (f x) 0 + sum_by (λ x. cond (p x) (f x) 0) xs) [
        | true ↦ omega (arith, sum_by-cons f x (filter p xs), rest)
        | false ↦ omega (arith, rest)
      ])
