-- Weighted sums over the pairs of a table.
use Rattle.std.proofs.Common.{◌≡◌, ℕ, suc, ◌-◌, ◌*◌, ◌<◌, ◌≤◌, [], ◌∷◌, sum_by, All, refl, ap, arith, ⊎_elim, mul-le-mul_left}
use Rattle.std.proofs.lemmas.List.Sums.{sum_by-cons, sum_by-le-sum_by}
use Rattle.std.proofs.lemmas.Bool.{cases_lt, le-leb, lt-leb}
use Rattle.prta_mass.specs.Table.{Table, total}
use Rattle.prta_mass.specs.Chances.{before}

-- the sum over the pairs of the weight times what stands one time before place k
abbrev pub sum_before : Table → (ℕ → ℕ) → ℕ → ℕ
sum_before table F k = sum_by (λ pair. pair.1 * before F k pair.0) table

pub before_near : (F : ℕ → ℕ) (k c : ℕ) → c ≤ k → before F k c ≡ F (k - c)
before_near F k c h = rw (le-leb c k h) refl

pub before_far : (F : ℕ → ℕ) (k c : ℕ) → k < c → before F k c ≡ 0
before_far F k c h = rw (lt-leb c k h) refl

-- by cases: the place before is one, or there is none
pub before_both : (P : ℕ → Type 0) (F : ℕ → ℕ) (k c : ℕ) → (c ≤ k → P (F (k - c))) → (k < c → P 0) → P (before F k c)
before_both P F k c near far = ⊎_elim
    (λ (l : k < c). rw (lt-leb c k l) (far l))
    (λ (l : c ≤ k). rw (le-leb c k l) (near l))
    (cases_lt k c)

-- equal terms have equal sums
pub sum_same : (table : Table) (f g : ℕ → ℕ) → ((c : ℕ) → f c ≡ g c) → sum_by (λ pair. pair.1 * f pair.0) table ≡ sum_by (λ pair. pair.1 * g pair.0) table
sum_same table f g h = ap (λ (e : ℕ × ℕ → ℕ). sum_by e table) (λ i pair. pair.1 * h pair.0 i)

-- a sum of terms of at most m, and of terms that are all m where the times are at most g
pub sum_most : (table : Table) (f : ℕ → ℕ) (m : ℕ) → ((c : ℕ) → f c ≤ m) → sum_by (λ pair. pair.1 * f pair.0) table ≤ total table * m
sum_most [] f m h = omega arith
sum_most (pair ∷ table) f m h = omega (
  arith,
  sum_by-cons (λ (p : ℕ × ℕ). p.1 * f p.0) pair table,
  ap (λ s. s * m) (sum_by-cons (λ (p : ℕ × ℕ). p.1) pair table),
  sum_most table f m h,
  mul-le-mul_left pair.1 (h pair.0),
)

pub sum_all : (table : Table) (f : ℕ → ℕ) (m : ℕ) → All (λ pair. f pair.0 ≡ m) table → sum_by (λ pair. pair.1 * f pair.0) table ≡ total table * m
sum_all [] f m h = omega arith
sum_all (pair ∷ table) f m h =
    let here : f pair.0 ≡ m = h 0 pair (omega arith) in
    let term : pair.1 * f pair.0 ≡ pair.1 * m = ap (λ x. pair.1 * x) here in
    omega (
      arith,
      term,
      sum_by-cons (λ (p : ℕ × ℕ). p.1 * f p.0) pair table,
      ap (λ s. s * m) (sum_by-cons (λ (p : ℕ × ℕ). p.1) pair table),
      sum_all table f m (λ i d l. h (suc i) d (omega arith)),
    )

pub sum_rises : (table : Table) (f g : ℕ → ℕ) → ((c : ℕ) → f c ≤ g c) → sum_by (λ pair. pair.1 * f pair.0) table ≤ sum_by (λ pair. pair.1 * g pair.0) table
sum_rises table f g h = sum_by-le-sum_by (λ (p : ℕ × ℕ). p.1 * f p.0) (λ (p : ℕ × ℕ). p.1 * g p.0) table (λ pair. mul-le-mul_left pair.1 (h pair.0))
