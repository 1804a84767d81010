-- Sums over the numbers below a limit.
use Rattle.std.proofs.Common.{◌≡◌, ℕ, zero, suc, ◌+◌, ◌*◌, ◌<◌, ◌≤◌, le_refl, refl, ap, ap₂, arith, inl, inr}
use Rattle.std.proofs.lemmas.Bool.{cases_lt}

abbrev pub sum_below : (ℕ → ℕ) → ℕ → ℕ
sum_below f zero = 0
sum_below f (suc n) = sum_below f n + f n

pub sum_below-same : (f g : ℕ → ℕ) (n : ℕ) → ((k : ℕ) → k < n → f k ≡ g k) → sum_below f n ≡ sum_below g n
sum_below-same f g zero e = refl
sum_below-same f g (suc n) e = ap₂ (λ a b. a + b) (sum_below-same f g n (λ k low. e k (omega arith))) (e n (omega arith))

pub sum_below-add : (f g : ℕ → ℕ) (n : ℕ) → sum_below (λ k. f k + g k) n ≡ sum_below f n + sum_below g n
sum_below-add f g zero = refl
sum_below-add f g (suc n) = omega (arith, sum_below-add f g n)

pub sum_below-first : (f : ℕ → ℕ) (n : ℕ) → sum_below f (suc n) ≡ f 0 + sum_below (λ k. f (suc k)) n
sum_below-first f zero = omega arith
sum_below-first f (suc n) = omega (arith, sum_below-first f n)

pub sum_below-constant : (c n : ℕ) → sum_below (λ k. c) n ≡ n * c
sum_below-constant c zero = omega arith
sum_below-constant c (suc n) = omega (arith, sum_below-constant c n)

pub sum_below-rises : (f : ℕ → ℕ) (m n : ℕ) → m ≤ n → sum_below f m ≤ sum_below f n
sum_below-rises f m zero h = let none : m ≡ 0 = omega arith in rw none (le_refl 0)
sum_below-rises f m (suc n) h =
    elim (cases_lt n m) [
      | inl all ↦ let same : m ≡ suc n = omega arith in rw same (le_refl (sum_below f (suc n)))
      | inr fewer ↦ omega (arith, sum_below-rises f m n fewer)
    ]

pub sum_below-none : (f : ℕ → ℕ) (n : ℕ) → ((k : ℕ) → k < n → f k ≡ 0) → sum_below f n ≡ 0
sum_below-none f zero e = refl
sum_below-none f (suc n) e = omega (arith, sum_below-none f n (λ k low. e k (omega arith)), e n (omega arith))

-- where every other term is 0, the sum is one term
pub sum_below-only : (f : ℕ → ℕ) (n i : ℕ) → i < n → ((k : ℕ) → k < n → (k ≡ i → ⊥) → f k ≡ 0) → sum_below f n ≡ f i
sum_below-only f zero i low e = absurd (omega arith)
sum_below-only f (suc n) i low e =
    elim (cases_lt i n) [
      | inl before ↦ omega (arith, sum_below-only f n i before (λ k l o. e k (omega arith) o), e n (omega arith) (λ same. omega arith))
      | inr here ↦ let same : n ≡ i = omega arith in omega (arith, sum_below-none f n (λ k l. e k (omega arith) (λ now. omega arith)), ap f same)
    ]
