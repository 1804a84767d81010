-- The sums of a delay are those of an addition to the tail.
use Rattle.std.proofs.Common.{◌≡◌, ℕ, ◌+◌, ◌-◌, ◌*◌, ◌/◌, ◌%◌, ◌<◌, ◌≤◌, max, Bool, true, false, not, nat_le, nat_eq, if◌then◌else◌, List, [], ◌∷◌, length, get_or, sum_by, refl, ap, sym, ◌∙◌, arith, ⊎_elim}
use Rattle.std.proofs.Math.Nat.{mul-add-div, mul-add-mod_self_left}
use Rattle.std.proofs.lemmas.List.FromFn.{fill_by_all}
use Rattle.std.proofs.lemmas.List.Sums.{sum_by-cons}
use Rattle.std.proofs.lemmas.Bool.{cases_lt, le-leb, lt-leb, lt-ltb, le-ltb, true≢false}
use Rattle.prta_mass.specs.Unit.{unit}
use Rattle.prta_mass.specs.Table.{Table, total}
use Rattle.prta_mass.specs.Chances.{at, before, IsChances}
use Rattle.prta_mass.specs.Direction.{divided}
use Rattle.prta_mass.specs.declared.direction.Dir.{Dir}
use Rattle.prta_mass.specs.declared.direction.Dir.TheVariants.{Up, Down}
use Rattle.prta_dist.specs.Addition.{weighted, cell_added, cells_added, leaves_rest, is_rounded}
use Rattle.prta_dist.proofs.Cells.{at_cell, at_rises, at_limited, length-cells_of, cell-cells_of, at-cells_of, chances_of}
use Rattle.prta_dist.proofs.Sums.{before_both, sum_same, sum_most, sum_rises}
use Rattle.prta_dist.proofs.Chances.{divided_most, divided_rises, weighted_none}
use Rattle.prta_dist.proofs.Windows.{some_place, place_of}
use Rattle.prta_preempt.specs.Delay.{delayed_sum, delayed, leaves_rest_above, is_delay_rounded, tail_above, merged}
use Rattle.prta_preempt.specs.Laws.{DelaysBySplitting, KeptByDelay, DelaysKeepChances}

-- ---- quotients and sums

pub divided_more : (dir : Dir) (w a x : ℕ) → 0 < w → divided dir (w * a + x) w ≡ a + divided dir x w
divided_more Up w a x some = mul-add-div some a x
divided_more Down w a x some =
    let quotient : (w * a + x) / w ≡ a + x / w = mul-add-div some a x in
    let rest : (w * a + x) % w ≡ x % w = mul-add-mod_self_left w a x in
    omega (arith, quotient, rest)

sum_more : (table : Table) (a : ℕ) (f : ℕ → ℕ) → sum_by (λ pair. pair.1 * (a + f pair.0)) table ≡ total table * a + sum_by (λ pair. pair.1 * f pair.0) table
sum_more [] a f = omega arith
sum_more (pair ∷ table) a f = omega (
  arith,
  sum_by-cons (λ (p : ℕ × ℕ). p.1 * (a + f p.0)) pair table,
  sum_by-cons (λ (p : ℕ × ℕ). p.1 * f p.0) pair table,
  ap (λ s. s * a) (sum_by-cons (λ (p : ℕ × ℕ). p.1) pair table),
  sum_more table a f,
)

-- ---- the tail

pub length-tail : (d : ℕ) (cells : List ℕ) → length (tail_above d cells) ≡ length cells
length-tail d cells = length-cells_of (length cells) (λ k. if nat_le k d then 0 else at cells k - at cells d)

pub tail_early : (d : ℕ) (cells : List ℕ) (k : ℕ) → k < length cells → k ≤ d → at (tail_above d cells) k ≡ 0
tail_early d cells k h early = at-cells_of (length cells) (λ k. if nat_le k d then 0 else at cells k - at cells d) k h ∙ rw (le-leb k d early) refl

pub tail_late : (d : ℕ) (cells : List ℕ) (k : ℕ) → k < length cells → d < k → at (tail_above d cells) k ≡ at cells k - at cells d
tail_late d cells k h late = at-cells_of (length cells) (λ k. if nat_le k d then 0 else at cells k - at cells d) k h ∙ rw (lt-leb k d late) refl

pub tail_chances : (d : ℕ) (cells : List ℕ) → IsChances cells → IsChances (tail_above d cells)
tail_chances d cells chances = chances_of (length cells) (λ k. if nat_le k d then 0 else at cells k - at cells d)
    (λ i k le h. more (nat_le i d) (nat_le k d) (at cells i) (at cells k) (at cells d) (at_rises cells i k chances.rising le)
    (λ e. ⊎_elim (λ (l : d < i). absurd (true≢false (sym e ∙ lt-leb k d (omega arith)))) (λ (l : i ≤ d). le-leb i d l) (cases_lt d i)))
    (λ k h. low (nat_le k d) (at cells k) (at cells d) (at_limited cells k chances))
  where
    more : (p q : Bool) (x y z : ℕ) → x ≤ y → (q ≡ true → p ≡ true) → (if p then 0 else x - z) ≤ (if q then 0 else y - z)
    more true q x y z le h = omega arith
    more false true x y z le h = absurd (true≢false (sym (h refl)))
    more false false x y z le h = omega arith

    low : (p : Bool) (x z : ℕ) → x ≤ unit → (if p then 0 else x - z) ≤ unit
    low true x z h = omega arith
    low false x z h = omega arith

-- ---- a cell above the split place

module _ (table : Table) (d : ℕ) (cells : List ℕ) (chances : IsChances cells) where
  term_delayed : (k c : ℕ) → d < k → k < length cells → at cells (max (k - c) d) ≡ at cells d + before (at (tail_above d cells)) k c
  term_delayed k c late h = before_both (λ x. at cells (max (k - c) d) ≡ at cells d + x) (at (tail_above d cells)) k c
      (λ near. ⊎_elim
      (λ (l : d < k - c).
      let place : max (k - c) d ≡ k - c = omega arith in
      let up : at cells d ≤ at cells (k - c) = at_rises cells d (k - c) chances.rising (omega arith) in
      let there : at (tail_above d cells) (k - c) ≡ at cells (k - c) - at cells d = tail_late d cells (k - c) (omega arith) l in
      ap (at cells) place ∙ omega (arith, up, there))
      (λ (l : k - c ≤ d).
      let place : max (k - c) d ≡ d = omega arith in
      ap (at cells) place ∙ omega (arith, tail_early d cells (k - c) (omega arith) l))
      (cases_lt d (k - c)))
      (λ far. let place : max (k - c) d ≡ d = omega arith in ap (at cells) place ∙ omega arith)

  pub sum_delayed : (k : ℕ) → d < k → k < length cells → delayed_sum table d cells k ≡ total table * at cells d + weighted table (tail_above d cells) k
  sum_delayed k late h =
      sum_same table (λ c. at cells (max (k - c) d)) (λ c. at cells d + before (at (tail_above d cells)) k c) (λ c. term_delayed k c late h)
      ∙ sum_more table (at cells d) (before (at (tail_above d cells)) k)

  sum_low : (k : ℕ) → d < k → delayed_sum table d cells k ≤ total table * at cells k
  sum_low k late = sum_most table (λ c. at cells (max (k - c) d)) (at cells k) (λ c. at_rises cells (max (k - c) d) k chances.rising (omega arith))

  sum_up : (i k : ℕ) → i ≤ k → delayed_sum table d cells i ≤ delayed_sum table d cells k
  sum_up i k le = sum_rises table (λ c. at cells (max (i - c) d)) (λ c. at cells (max (k - c) d)) (λ c. at_rises cells (max (i - c) d) (max (k - c) d) chances.rising (omega arith))

  module _ (dir : Dir) (weighs : 0 < total table) where
    abbrev new_cell : ℕ → ℕ
    new_cell k = if nat_le k d then at cells k else divided dir (delayed_sum table d cells k) (total table)

    early : (k : ℕ) → k ≤ d → new_cell k ≡ at cells k
    early k l = rw (le-leb k d l) refl

    late_cell : (k : ℕ) → d < k → new_cell k ≡ divided dir (delayed_sum table d cells k) (total table)
    late_cell k l = rw (lt-leb k d l) refl

    pub cell_split : (k : ℕ) → d < k → k < length cells → divided dir (delayed_sum table d cells k) (total table) ≡ at cells d + at (cells_added dir table (tail_above d cells)) k
    cell_split k late h =
        ap (λ x. divided dir x (total table)) (sum_delayed k late h)
        ∙ divided_more dir (total table) (at cells d) (weighted table (tail_above d cells) k) weighs
        ∙ ap (λ x. at cells d + x) (sym (at-cells_of (length (tail_above d cells)) (cell_added dir table (tail_above d cells)) k (omega (arith, length-tail d cells))))

    pub cell_low : (k : ℕ) → d < k → divided dir (delayed_sum table d cells k) (total table) ≤ at cells k
    cell_low k late = divided_most dir (delayed_sum table d cells k) (at cells k) (total table) weighs (omega (arith, sum_low k late))

    -- what is merged above d is at most the unit
    pub tail_fits : (k : ℕ) → d < k → k < length cells → get_or cells d 0 + get_or (cells_added dir table (tail_above d cells)) k 0 ≤ unit
    tail_fits k late h =
        let added : List ℕ = cells_added dir table (tail_above d cells) in
        let size : length added ≡ length (tail_above d cells) = length-cells_of (length (tail_above d cells)) (cell_added dir table (tail_above d cells)) in
        omega (arith, cell_split k late h, cell_low k late, at_limited cells k chances, at_cell cells d 0 (omega arith), at_cell added k 0 (omega (arith, size, length-tail d cells)))

    falls : (k : ℕ) → new_cell k ≤ at cells k
    falls k = ⊎_elim (λ (l : d < k). rw (late_cell k l) (cell_low k l)) (λ (l : k ≤ d). omega (arith, early k l)) (cases_lt d k)

    rises : (i k : ℕ) → i ≤ k → k < length cells → new_cell i ≤ new_cell k
    rises i k le h = ⊎_elim
        (λ (l : d < i). omega (arith, late_cell i l, late_cell k (omega arith), divided_rises dir (delayed_sum table d cells i) (delayed_sum table d cells k) (total table) weighs (sum_up i k le)))
        (λ (l : i ≤ d). ⊎_elim
        (λ (m : d < k). omega (arith, early i l, late_cell k m, cell_split k m h, at_rises cells i d chances.rising l))
        (λ (m : k ≤ d). omega (arith, early i l, early k m, at_rises cells i k chances.rising le))
        (cases_lt d k))
        (cases_lt d i)

    pub kept : d < length cells → KeptByDelay d cells (delayed dir table d cells)
    kept place = record {
      chances = chances_of (length cells) new_cell rises (λ k h. omega (arith, falls k, at_limited cells k chances));
      size = length-cells_of (length cells) new_cell;
      early = λ k l. at-cells_of (length cells) new_cell k (omega arith) ∙ early k l;
      falls = λ k h. rw (at-cells_of (length cells) new_cell k h) (falls k);
    }

    -- ---- the delay by splitting

    pub split_digits : merged d cells (cells_added dir table (tail_above d cells)) ≡ delayed dir table d cells
    split_digits =
        let joined : ℕ → ℕ = λ k. if nat_le k d then at cells k else at cells d + at (cells_added dir table (tail_above d cells)) k in
        fill_by_all new_cell (merged d cells (cells_added dir table (tail_above d cells))) (length cells) 0 (length-cells_of (length cells) joined) (λ k h.
        cell-cells_of (length cells) joined k 0 h ∙ ⊎_elim
        (λ (l : d < k). rw (lt-leb k d l) (sym (cell_split k l h)))
        (λ (l : k ≤ d). rw (le-leb k d l) refl)
        (cases_lt d k))

    -- ---- its remainders

    rest_late : (k : ℕ) → d < k → k < length cells → leaves_rest_above table d cells k ≡ leaves_rest table (tail_above d cells) k
    rest_late k late h = rw (lt-ltb d k late)
        (ap (λ x. not (nat_eq (x % total table) 0)) (sum_delayed k late h)
        ∙ ap (λ r. not (nat_eq r 0)) (mul-add-mod_self_left (total table) (at cells d) (weighted table (tail_above d cells) k)))

    rest_early : (k : ℕ) → k ≤ d → leaves_rest_above table d cells k ≡ false
    rest_early k l = rw (le-ltb d k l) refl

    none_early : (k : ℕ) → d < length cells → k ≤ d → leaves_rest table (tail_above d cells) k ≡ false
    none_early k place l =
        let none : weighted table (tail_above d cells) k ≡ 0 = weighted_none table (tail_above d cells) (d + 1) k (λ i low. tail_early d cells i (omega arith) (omega arith)) (omega arith) in
        let zero_rest : 0 % total table ≡ 0 = omega arith in
        ap (λ x. not (nat_eq (x % total table) 0)) none ∙ ap (λ r. not (nat_eq r 0)) zero_rest

    same_answer : (a b : Bool) → (a ≡ true → b ≡ true) → (b ≡ true → a ≡ true) → a ≡ b
    same_answer true b there back = sym (there refl)
    same_answer false true there back = back refl
    same_answer false false there back = refl

    pub split_rounded : d < length cells → is_rounded table (tail_above d cells) ≡ is_delay_rounded table d cells
    split_rounded place =
        let tail : List ℕ = tail_above d cells in
        same_answer (is_rounded table tail) (is_delay_rounded table d cells)
        (λ some.
        let found = some_place (leaves_rest table tail) (length tail) some in
        let inside : found.0 < length cells = omega (arith, found.1, length-tail d cells) in
        ⊎_elim
        (λ (l : d < found.0). place_of (leaves_rest_above table d cells) (length cells) found.0 inside (rest_late found.0 l inside ∙ found.2))
        (λ (l : found.0 ≤ d). absurd (true≢false (sym found.2 ∙ none_early found.0 place l)))
        (cases_lt d found.0))
        (λ some.
        let found = some_place (leaves_rest_above table d cells) (length cells) some in
        ⊎_elim
        (λ (l : d < found.0). place_of (leaves_rest table tail) (length tail) found.0 (omega (arith, found.1, length-tail d cells)) (sym (rest_late found.0 l found.1) ∙ found.2))
        (λ (l : found.0 ≤ d). absurd (true≢false (sym found.2 ∙ rest_early found.0 l)))
        (cases_lt d found.0))

pub by_splitting : DelaysBySplitting
by_splitting dir table d cells is chances place = record {
  digits = split_digits table d cells chances dir is.weighs;
  rounded = split_rounded table d cells chances dir is.weighs place;
}

pub keep_chances : DelaysKeepChances
keep_chances dir table d cells is chances place = kept table d cells chances dir is.weighs place
