-- The counted times of a task rise, and each has the sum of its weights.
use Rattle.std.proofs.Common.{◌≡◌, ℕ, zero, suc, ◌+◌, ◌<◌, Bool, true, false, ◌&&◌, cond, nat_eq, if◌then◌else◌, List, [], ◌∷◌, filter, fold, sum_by, ap, sym, ◌∙◌, arith, inl, inr, add-one}
use Rattle.std.specs.List.Sorted.{IsStrictlyIncreasing}
use Rattle.std.proofs.lemmas.Bool.{cases_order}
use Rattle.std.proofs.lemmas.List.Sums.{sum_by-cons}
use Rattle.prta_mass.specs.Table.{Table, times}
use Rattle.prta_times.specs.Counts.{Count, with_weight, is_of, counted}
use Rattle.prta_times.specs.Laws.{weight_at, weight_counted, CountedAreSums}
use Rattle.prta_times.proofs.WithWeight.{before_first, at_first, after_first}

-- ---- the times rise

abbrev IsAbove : ℕ → Table → Type 0
IsAbove time [] = Unit {0}
IsAbove time (pair ∷ pairs) = time < pair.0

abbrev Rises : Table → Type 0
Rises [] = Unit {0}
Rises (pair ∷ pairs) = IsAbove pair.0 pairs × Rises pairs

above_with : (low time weight : ℕ) (table : Table) → low < time → IsAbove low table → IsAbove low (with_weight time weight table)
above_with low time weight [] above h = above
above_with low time weight (pair ∷ pairs) above h =
    elim (cases_order time pair.0) [
      | inl same ↦ rw (at_first time weight pair pairs same) above
      | inr (inl before) ↦ rw (before_first time weight pair pairs before) above
      | inr (inr after) ↦ rw (after_first time weight pair pairs after) h
    ]

rises_with : (time weight : ℕ) (table : Table) → Rises table → Rises (with_weight time weight table)
rises_with time weight [] h = (tt, tt)
rises_with time weight (pair ∷ pairs) h =
    elim (cases_order time pair.0) [
      | inl same ↦ rw (at_first time weight pair pairs same, same) h
      | inr (inl before) ↦ rw (before_first time weight pair pairs before) (before, h)
      | inr (inr after) ↦ rw (after_first time weight pair pairs after) (above_with pair.0 time weight pairs after h.0, rises_with time weight pairs h.1)
    ]

increasing : (table : Table) → Rises table → IsStrictlyIncreasing (times table)
increasing [] h k low = absurd (omega arith)
increasing (pair ∷ []) h k low = absurd (omega arith)
increasing (pair ∷ next ∷ pairs) h zero low = h.0
increasing (pair ∷ next ∷ pairs) h (suc k) low = rw add-one (rw add-one at (increasing (next ∷ pairs) h.1 k (omega arith)))

-- ---- the weight of a time

-- the number where the test holds, else 0
abbrev number_if : Bool → ℕ → ℕ
number_if b n = if b then n else 0

weight_first : (time : ℕ) (pair : ℕ × ℕ) (pairs : Table) → weight_at time (pair ∷ pairs) ≡ number_if (nat_eq pair.0 time) pair.1 + weight_at time pairs
weight_first time pair pairs = by (nat_eq pair.0 time)
  where
    by : (b : Bool) → sum_by (λ (p : ℕ × ℕ). p.1) (cond b (pair ∷ filter (λ (p : ℕ × ℕ). nat_eq p.0 time) pairs) (filter (λ (p : ℕ × ℕ). nat_eq p.0 time) pairs)) ≡ number_if b pair.1 + weight_at time pairs
    by true = sum_by-cons (λ (p : ℕ × ℕ). p.1) pair (filter (λ (p : ℕ × ℕ). nat_eq p.0 time) pairs)
    by false = omega arith

joined : (b : Bool) (m n k : ℕ) → number_if b (m + n) + k ≡ number_if b m + k + number_if b n
joined true m n k = omega arith
joined false m n k = omega arith

weight_with : (at time weight : ℕ) (table : Table) → weight_at at (with_weight time weight table) ≡ weight_at at table + number_if (nat_eq time at) weight
weight_with at time weight [] = omega (arith, weight_first at (time, weight) [])
weight_with at time weight (pair ∷ pairs) =
    let first = weight_first at pair pairs in
    elim (cases_order time pair.0) [
      | inl same ↦
          let e : number_if (nat_eq pair.0 at) pair.1 ≡ number_if (nat_eq time at) pair.1 = ap (λ t. number_if (nat_eq t at) pair.1) (sym same) in
          rw (at_first time weight pair pairs same) (omega (arith, first, e, weight_first at (time, pair.1 + weight) pairs, joined (nat_eq time at) pair.1 weight (weight_at at pairs)))
      | inr (inl before) ↦ rw (before_first time weight pair pairs before) (omega (arith, weight_first at (time, weight) (pair ∷ pairs)))
      | inr (inr after) ↦ rw (after_first time weight pair pairs after) (omega (arith, first, weight_first at pair (with_weight time weight pairs), weight_with at time weight pairs))
    ]

-- ---- over the counts

module _ (name : List ℕ) where
  -- the table after a count
  abbrev pub next : Table → Count → Table
  next table count = if is_of name count then with_weight count.time count.weight table else table

  rises_next : (b : Bool) (table : Table) (count : Count) → Rises table → Rises (if b then with_weight count.time count.weight table else table)
  rises_next true table count h = rises_with count.time count.weight table h
  rises_next false table count h = h

  rises_after : (table : Table) (counts : List Count) → Rises table → Rises (fold next table counts)
  rises_after table [] h = h
  rises_after table (count ∷ counts) h = rises_after (next table count) counts (rises_next (is_of name count) table count h)

  counted_first : (at : ℕ) (count : Count) (counts : List Count) → weight_counted name at (count ∷ counts) ≡ number_if (is_of name count && nat_eq count.time at) count.weight + weight_counted name at counts
  counted_first at count counts = by (is_of name count && nat_eq count.time at)
    where
      passes : Count → Bool
      passes c = is_of name c && nat_eq c.time at

      by : (b : Bool) → sum_by (λ (c : Count). c.weight) (cond b (count ∷ filter (λ (c : Count). is_of name c && nat_eq c.time at) counts) (filter (λ (c : Count). is_of name c && nat_eq c.time at) counts)) ≡ number_if b count.weight + weight_counted name at counts
      by true = sum_by-cons (λ (c : Count). c.weight) count (filter (λ (c : Count). is_of name c && nat_eq c.time at) counts)
      by false = omega arith

  weight_next : (at : ℕ) (table : Table) (count : Count) → weight_at at (next table count) ≡ weight_at at table + number_if (is_of name count && nat_eq count.time at) count.weight
  weight_next at table count = by (is_of name count)
    where
      by : (b : Bool) → weight_at at (if b then with_weight count.time count.weight table else table) ≡ weight_at at table + number_if (b && nat_eq count.time at) count.weight
      by true = weight_with at count.time count.weight table
      by false = omega arith

  weight_after : (at : ℕ) (table : Table) (counts : List Count) → weight_at at (fold next table counts) ≡ weight_at at table + weight_counted name at counts
  weight_after at table [] = omega arith
  weight_after at table (count ∷ counts) = omega (arith, weight_after at (next table count) counts, weight_next at table count, counted_first at count counts)

pub counted_are_sums : CountedAreSums
counted_are_sums name counts = record {
  rising = increasing (counted name counts) (rises_after name [] counts tt);
  sums = λ time. weight_after name time [] counts ∙ omega arith;
}
