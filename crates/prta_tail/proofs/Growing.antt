-- Growth rises, and the sum of a factor is within its limits.
use Rattle.std.proofs.Common.{◌≡◌, ℕ, zero, suc, ◌+◌, ◌-◌, ◌*◌, ◌^◌, ◌≤◌, ◌<◌, min, nat_le, true, false, All, [], ◌∷◌, length, get_or, sum_by, take, ap, ap₂, sym, ◌∙◌, subst, arith, ⊎_elim, le_trans, mul-le-mul_left, mul-le-mul_right, add-zero, add-suc}
use Rattle.std.specs.Int.{div_ceil}
use Rattle.std.specs.List.{AllByRecursion as Each}
use Rattle.std.proofs.Math.Nat.{le_of_mul-le-mul_right}
use Rattle.std.proofs.lemmas.List.{length-map, get_or-map}
use Rattle.std.proofs.lemmas.List.Kept.{AllPairs-from_increasing}
use Rattle.std.proofs.lemmas.Bool.{cases_lt, cases_Bool, leb-true, le-leb, lt-leb}
use Rattle.std.proofs.lemmas.List.Elements.{recursion_from_All}
use Rattle.std.proofs.lemmas.List.Sums.{sum_by-cons, sum_by_more, get_or-le-sum_by, AllPass-from_list_all, list_all-from_AllPass}
use Rattle.prta_mass.specs.Table.{Table, IsTable, total, greatest, times}
use Rattle.prta_mass.proofs.Latest.{times_low}
use Rattle.prta_tail.specs.declared.ratio.Ratio.{Ratio}
use Rattle.prta_tail.specs.Ratios.{IsProper}
use Rattle.prta_tail.specs.Walk.{grown_from, grown, factor, grows_low}
use Rattle.prta_tail.proofs.Products.{ceil-times, ceil_least}

-- some ticks, and then others
pub grown_then : (r : Ratio) (s a b : ℕ) → grown_from r s (a + b) ≡ grown_from r (grown_from r s a) b
grown_then r s a zero = ap (grown_from r s) (add-zero a)
grown_then r s a (suc b) = ap (grown_from r s) (add-suc a b) ∙ ap (λ g. div_ceil (g * r.q) r.p) (grown_then r s a b)

pub grown_next : (r : Ratio) (s n : ℕ) → grown_from r s (n + 1) ≡ div_ceil (grown_from r s n * r.q) r.p
grown_next r s n = let e : n + 1 ≡ suc n = omega arith in ap (grown_from r s) e

module _ (r : Ratio) (is : IsProper r) where
  grows : (x : ℕ) → x ≤ div_ceil (x * r.q) r.p
  grows x =
      let below : r.p ≤ r.q = omega (arith, is.below_one) in
      le_of_mul-le-mul_right {k = r.p} (le_trans (mul-le-mul_left x below) (ceil-times (x * r.q) r.p is.some)) is.some

  pub grown_rises : (s n m : ℕ) → n ≤ m → grown_from r s n ≤ grown_from r s m
  grown_rises s n zero h = let e : n ≡ 0 = omega arith in rw e (omega arith)
  grown_rises s n (suc m) h = ⊎_elim
      (λ (l : n < suc m). le_trans (grown_rises s n m (omega arith)) (grows (grown_from r s m)))
      (λ (l : suc m ≤ n). let e : n ≡ suc m = omega arith in rw e (omega arith))
      (cases_lt n (suc m))

  -- the growth over the greatest time decides
  pub greatest_decides : (table : Table) → IsTable table → nat_le (min (grown r (greatest table)) (2 ^ 60 + 1)) (2 ^ 60) ≡ grows_low r table
  greatest_decides table is_table = ⊎_elim
      (λ (high : 2 ^ 60 < grown r (greatest table)).
      lt-leb (min (grown r (greatest table)) (2 ^ 60 + 1)) (2 ^ 60) (omega arith) ∙ sym (⊎_elim
      (λ (e : grows_low r table ≡ true).
      let all : All (λ (pair : ℕ × ℕ). nat_le (grown r pair.0) (2 ^ 60) ≡ true) table = AllPass-from_list_all (λ (pair : ℕ × ℕ). nat_le (grown r pair.0) (2 ^ 60)) table e in
      let last : grown r (greatest table) ≤ 2 ^ 60 = leb-true (grown r (greatest table)) (2 ^ 60) (all (length table - 1) (0, 0) (omega (arith, is_table.some))) in
      absurd (omega arith))
      (λ (e : grows_low r table ≡ false). e)
      (cases_Bool (grows_low r table))))
      (λ (low : grown r (greatest table) ≤ 2 ^ 60).
      le-leb (min (grown r (greatest table)) (2 ^ 60 + 1)) (2 ^ 60) (omega arith)
      ∙ sym (list_all-from_AllPass (λ (pair : ℕ × ℕ). nat_le (grown r pair.0) (2 ^ 60)) table
      (λ k d h. le-leb (grown r (get_or table k d).0) (2 ^ 60) (le_trans (grown_rises (2 ^ 32) (get_or table k d).0 (greatest table) (times_low table is_table k d h)) low))))
      (cases_lt (2 ^ 60) (grown r (greatest table)))

-- each growth of a table that grows low
pub each_low : (r : Ratio) (table : Table) → grows_low r table ≡ true → (k : ℕ) (d : ℕ × ℕ) → k < length table → grown r (get_or table k d).0 ≤ 2 ^ 60
each_low r table e k d h =
    leb-true (grown r (get_or table k d).0) (2 ^ 60) (AllPass-from_list_all (λ (pair : ℕ × ℕ). nat_le (grown r pair.0) (2 ^ 60)) table e k d h)

-- a factor is at most what each growth of the table is
pub factor_low : (r : Ratio) (table : Table) → 0 < total table → grows_low r table ≡ true → factor r table ≤ 2 ^ 60
factor_low r table some e =
    ceil_least (sum_by (λ pair. pair.1 * grown r pair.0) table) (total table) (2 ^ 60) some
    (weighted table (recursion_from_All (λ pair. grown r pair.0 ≤ 2 ^ 60) table (each_low r table e)))
  where
    weighted : (t : Table) → Each (λ pair. grown r pair.0 ≤ 2 ^ 60) t → sum_by (λ pair. pair.1 * grown r pair.0) t ≤ 2 ^ 60 * total t
    weighted [] h = omega arith
    weighted (pair ∷ t) h =
        omega (
          arith,
          sum_by-cons (λ (p : ℕ × ℕ). p.1 * grown r p.0) pair t,
          sum_by-cons (λ (p : ℕ × ℕ). p.1) pair t,
          weighted t h.1,
          mul-le-mul_left pair.1 h.0,
        )

-- ---- the sum, pair by pair

-- the times of a table rise
times_rise : (table : Table) → IsTable table → (i k : ℕ) → i < k → k < length table → (get_or table i (0, 0)).0 ≤ (get_or table k (0, 0)).0
times_rise table is i k before low =
    let time : (j : ℕ) → j < length table → get_or (times table) j 0 ≡ (get_or table j (0, 0)).0 = λ j l. get_or-map (λ (p : ℕ × ℕ). p.0) table j (0, 0) 0 l in
    let below : get_or (times table) i 0 < get_or (times table) k 0 = AllPairs-from_increasing (times table) is.increasing i k 0 before (omega (arith, length-map table (λ (p : ℕ × ℕ). p.0))) in
    omega (arith, below, time i (omega arith), time k low)

-- after the pairs before place i: the time of the last of them, the growth over it, and the weighted sum
pub record IsSummed (r : Ratio) (table : Table) (i time growth sum : ℕ) : Type 0 where
  pub reached : (k : ℕ) → i ≤ k → k < length table → time ≤ (get_or table k (0, 0)).0
  pub growth_is : growth ≡ grown r time
  pub low : growth ≤ 2 ^ 60
  pub sum_is : sum ≡ sum_by (λ pair. pair.1 * grown r pair.0) (take i table)
  pub small : sum ≤ i * 2 ^ 108

-- the growth over one time more
pub next_growth : (r : Ratio) (table : Table) (i time growth sum : ℕ) → IsSummed r table i time growth sum → grows_low r table ≡ true → i < length table →
    (at growth' : ℕ) → at ≡ (get_or table i (0, 0)).0 → growth' ≡ min (grown_from r growth (at - time)) (2 ^ 60 + 1) → growth' ≡ grown r at
next_growth r table i time growth sum is low near at growth' at_is e =
    let before : time ≤ at = omega (arith, is.reached i (omega arith) near, at_is) in
    let split : at ≡ time + (at - time) = omega arith in
    let all : grown r at ≡ grown_from r growth (at - time) = ap (grown r) split ∙ grown_then r (2 ^ 32) time (at - time) ∙ ap (λ g. grown_from r g (at - time)) (sym is.growth_is) in
    let limit : grown r at ≤ 2 ^ 60 = subst (λ c. grown r c ≤ 2 ^ 60) (sym at_is) (each_low r table low i (0, 0) near) in
    omega (arith, e, all, limit)

pub summed_more : (r : Ratio) (table : Table) → IsTable table → (i time growth sum : ℕ) → IsSummed r table i time growth sum → grows_low r table ≡ true → (near : i < length table) →
    (at weight growth' sum' : ℕ) → at ≡ (get_or table i (0, 0)).0 → weight ≡ (get_or table i (0, 0)).1 → growth' ≡ grown r at → sum' ≡ sum + weight * growth' →
    IsSummed r table (i + 1) at growth' sum'
summed_more r table is_table i time growth sum is low near at weight growth' sum' at_is weight_is growth_is sum_is =
    let limit : growth' ≤ 2 ^ 60 = subst (λ g. g ≤ 2 ^ 60) (sym growth_is) (subst (λ c. grown r c ≤ 2 ^ 60) (sym at_is) (each_low r table low i (0, 0) near)) in
    let light : weight ≤ 2 ^ 48 = omega (arith, weight_is, get_or-le-sum_by (λ (pair : ℕ × ℕ). pair.1) table i (0, 0) near, is_table.limited) in
    let more : sum_by (λ (pair : ℕ × ℕ). pair.1 * grown r pair.0) (take (i + 1) table) ≡ sum_by (λ pair. pair.1 * grown r pair.0) (take i table) + (get_or table i (0, 0)).1 * grown r (get_or table i (0, 0)).0 =
    sum_by_more (λ (pair : ℕ × ℕ). pair.1 * grown r pair.0) table i (0, 0) near in
    let term : weight * growth' ≡ (get_or table i (0, 0)).1 * grown r (get_or table i (0, 0)).0 = ap₂ (λ w g. w * g) weight_is (growth_is ∙ ap (grown r) at_is) in
    record {
      reached = λ k le h. omega (arith, at_is, rising k le h);
      growth_is = growth_is;
      low = limit;
      sum_is = omega (arith, sum_is, is.sum_is, more, term);
      small = omega (arith, sum_is, is.small, bounded weight growth' light limit);
    }
  where
    rising : (k : ℕ) → i + 1 ≤ k → k < length table → (get_or table i (0, 0)).0 ≤ (get_or table k (0, 0)).0
    rising k le h = times_rise table is_table i k (omega arith) h

    bounded : (w g : ℕ) → w ≤ 2 ^ 48 → g ≤ 2 ^ 60 → w * g ≤ 2 ^ 108
    bounded w g a b = omega (arith, mul-le-mul_left w b, mul-le-mul_right (2 ^ 60) a)
