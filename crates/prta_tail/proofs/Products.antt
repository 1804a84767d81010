-- Products over lists, and rounded quotients.
use Rattle.std.proofs.Common.{◌≡◌, ℕ, suc, ◌+◌, ◌*◌, ◌/◌, ◌%◌, ◌≤◌, ◌<◌, min, Bool, true, false, cond, ◌||◌, List, [], ◌∷◌, ◌++◌, map, filter, refl, ap, ◌∙◌, arith}
use Rattle.std.specs.Int.{div_ceil}
use Rattle.std.proofs.Math.Nat.{mul-lt-mul_of_pos_left, lt_of_mul-lt-mul_left}
use Rattle.std.proofs.lemmas.Grind.{div_ceil_times}

module _ {X : Type 0} where
  abbrev pub product : (X → ℕ) → List X → ℕ
  product f [] = 1
  product f (x ∷ xs) = f x * product f xs

  pub product-append : (f : X → ℕ) (xs ys : List X) → product f (xs ++ ys) ≡ product f xs * product f ys
  product-append f [] ys = omega arith
  product-append f (x ∷ xs) ys = ap (λ s. f x * s) (product-append f xs ys) ∙ omega arith

  -- a product over what passes one of two tests that don't both pass
  pub product-filters : (h o : X → Bool) → ((x : X) → h x ≡ true → o x ≡ false) → (f : X → ℕ) (xs : List X) →
      product f (filter h xs) * product f (filter o xs) ≡ product f (filter (λ x. o x || h x) xs)
  product-filters h o apart f [] = refl
  product-filters h o apart f (x ∷ xs) = one_more (h x) (o x) (filter h xs) (filter o xs) (filter (λ x. o x || h x) xs) (apart x) (product-filters h o apart f xs)
    where
      one_more : (a b : Bool) (hs os all : List X) → (a ≡ true → b ≡ false) → product f hs * product f os ≡ product f all →
          product f (cond a (x ∷ hs) hs) * product f (cond b (x ∷ os) os) ≡ product f (cond (b || a) (x ∷ all) all)
      one_more true b hs os all not_both ih =
          let no : b ≡ false = not_both refl in
          rw no (omega arith ∙ ap (λ s. f x * s) ih)
      one_more false true hs os all not_both ih = omega arith ∙ ap (λ s. f x * s) ih
      one_more false false hs os all not_both ih = ih

pub product-map : {X Y : Type 0} (f : Y → ℕ) (g : X → Y) (xs : List X) → product f (map g xs) ≡ product (λ x. f (g x)) xs
product-map f g [] = refl
product-map f g (x ∷ xs) = ap (λ s. f (g x) * s) (product-map f g xs)

pub times_positive : (a b : ℕ) → 0 < a → 0 < b → 0 < a * b
times_positive a b p q = omega (arith, let l : a * 0 < a * b = mul-lt-mul_of_pos_left q p in l)

pub product_positive : {X : Type 0} (c : ℕ) → 0 < c → (xs : List X) → 0 < product (λ (x : X). c) xs
product_positive c p [] = omega arith
product_positive c p (x ∷ xs) = times_positive c (product (λ x. c) xs) p (product_positive c p xs)

-- ---- quotients rounded up

pub ceil-times : (a b : ℕ) → 0 < b → a ≤ div_ceil a b * b
ceil-times a b p = (div_ceil_times a b p).0

-- the least number that has this property
pub ceil_least : (a b c : ℕ) → 0 < b → a ≤ c * b → div_ceil a b ≤ c
ceil_least a b c p h =
    let n : ℕ = a / b + min 1 (a % b) in
    let high : n * b < a + b = (div_ceil_times a b p).1 in
    let lt : n < suc c = lt_of_mul-lt-mul_left b (cut n a b c high h) in
    omega arith
  where
    cut : (n a b c : ℕ) → n * b < a + b → a ≤ c * b → b * n < b * suc c
    cut n a b c h l = omega arith
