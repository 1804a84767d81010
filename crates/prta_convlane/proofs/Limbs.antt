-- Sums by limbs: their bounds, and what all limbs add up to.
use Rattle.std.proofs.Common.{◌≡◌, ℕ, ◌+◌, ◌-◌, ◌*◌, ◌%◌, ◌^◌, ◌<◌, ◌≤◌, List, [], ◌∷◌, length, take, get_or, ap, ◌∙◌, sym, arith}
use Rattle.std.proofs.lemmas.List.Sums.{sum_by-cons, sum_by_more, sum_by_more_le, get_or-le-sum_by}
use Rattle.prta_mass.specs.Unit.{unit}
use Rattle.prta_mass.specs.Table.{Table, total}
use Rattle.prta_mass.specs.Chances.{at, before, IsChances}
use Rattle.prta_dist.specs.Addition.{weighted}
use Rattle.prta_dist.proofs.Cells.{at_cell, at_limited}
use Rattle.prta_dist.proofs.Sums.{before_both, before_near, sum_most}
use Rattle.prta_convlane.specs.Limbs.{high_half, low_half, top_quarter, high_quarter, middle_quarter, low_quarter, limb_sum, joined}

-- ---- bounds: a limb that is at most m at every value up to the unit

-- all pairs
pub limb_most : (limb : ℕ → ℕ) (m : ℕ) → ((x : ℕ) → x ≤ unit → limb x ≤ m) → (table : Table) (cells : List ℕ) (k : ℕ) → IsChances cells → limb_sum limb table cells k ≤ total table * m
limb_most limb m low table cells k chances =
    sum_most table (λ c. limb (before (at cells) k c)) m (λ c. low (before (at cells) k c)
    (before_both (λ x. x ≤ unit) (at cells) k c (λ near. at_limited cells (k - c) chances) (λ far. omega arith)))

-- the pairs so far, and one more
pub more_most : (limb : ℕ → ℕ) (m : ℕ) → ((x : ℕ) → x ≤ unit → limb x ≤ m) → (table : Table) (cells : List ℕ) (k i : ℕ) → IsChances cells → i < length table →
    limb_sum limb (take i table) cells k + (get_or table i (0, 0)).1 * limb (before (at cells) k (get_or table i (0, 0)).0) ≤ total table * m
more_most limb m low table cells k i chances inside =
    let pair : ℕ × ℕ = get_or table i (0, 0) in
    let more : limb_sum limb (take i table) cells k + pair.1 * limb (before (at cells) k pair.0) ≤ limb_sum limb table cells k =
    sum_by_more_le (λ (p : ℕ × ℕ). p.1 * limb (before (at cells) k p.0)) table i (0, 0) inside in
    omega (arith, more, limb_most limb m low table cells k chances)

pub limb_more : (limb : ℕ → ℕ) (table : Table) (cells : List ℕ) (k i : ℕ) → i < length table →
    limb_sum limb (take (i + 1) table) cells k ≡ limb_sum limb (take i table) cells k + (get_or table i (0, 0)).1 * limb (before (at cells) k (get_or table i (0, 0)).0)
limb_more limb table cells k i inside = sum_by_more (λ (p : ℕ × ℕ). p.1 * limb (before (at cells) k p.0)) table i (0, 0) inside

-- a weight is at most the total
pub weight_most : (table : Table) (i : ℕ) → i < length table → (get_or table i (0, 0)).1 ≤ total table
weight_most table i inside = get_or-le-sum_by (λ (p : ℕ × ℕ). p.1) table i (0, 0) inside

-- the whole value as a limb: sums in 128 bits
pub more_fits : (table : Table) (cells : List ℕ) (k i : ℕ) → IsChances cells → total table ≤ 281474976710656 → i < length table → (get_or table i (0, 0)).0 ≤ k → k < length cells →
    weighted (take i table) cells k + (get_or table i (0, 0)).1 * get_or cells (k - (get_or table i (0, 0)).0) 0 < 2 ^ 110
more_fits table cells k i chances limited inside near place =
    let pair : ℕ × ℕ = get_or table i (0, 0) in
    let more : weighted (take i table) cells k + pair.1 * before (at cells) k pair.0 ≤ total table * unit = more_most (λ x. x) unit (λ x h. h) table cells k i chances inside in
    let value : pair.1 * before (at cells) k pair.0 ≡ pair.1 * get_or cells (k - pair.0) 0 =
    ap (λ x. pair.1 * x) (before_near (at cells) k pair.0 near ∙ sym (at_cell cells (k - pair.0) 0 (omega arith))) in
    omega (arith, more, value, limited)

pub weighted_within : (table : Table) (cells : List ℕ) (k : ℕ) → IsChances cells → weighted table cells k ≤ total table * unit
weighted_within = limb_most (λ x. x) unit (λ x h. h)

-- halves
pub high_half_most : (x : ℕ) → x ≤ unit → high_half x ≤ 4294967295
high_half_most x h = omega arith

pub low_half_most : (x : ℕ) → x ≤ unit → low_half x ≤ 4294967295
low_half_most x h = omega arith

pub half_fits : (limb : ℕ → ℕ) → ((x : ℕ) → x ≤ unit → limb x ≤ 4294967295) → (table : Table) (cells : List ℕ) (k i : ℕ) → IsChances cells → total table < 2 ^ 32 → i < length table →
    limb_sum limb (take i table) cells k + (get_or table i (0, 0)).1 * limb (before (at cells) k (get_or table i (0, 0)).0) < 2 ^ 64
half_fits limb low table cells k i chances small inside = omega (arith, more_most limb 4294967295 low table cells k i chances inside)

-- quarters
pub top_quarter_most : (x : ℕ) → x ≤ unit → top_quarter x ≤ 32768
top_quarter_most x h = omega arith

pub high_quarter_most : (x : ℕ) → x ≤ unit → high_quarter x ≤ 32768
high_quarter_most x h = omega arith

pub middle_quarter_most : (x : ℕ) → x ≤ unit → middle_quarter x ≤ 32768
middle_quarter_most x h = omega arith

pub low_quarter_most : (x : ℕ) → x ≤ unit → low_quarter x ≤ 32768
low_quarter_most x h = omega arith

pub quarter_fits : (limb : ℕ → ℕ) → ((x : ℕ) → x ≤ unit → limb x ≤ 32768) → (table : Table) (cells : List ℕ) (k i : ℕ) → IsChances cells → total table ≤ 281474976710656 → i < length table →
    limb_sum limb (take i table) cells k + (get_or table i (0, 0)).1 * limb (before (at cells) k (get_or table i (0, 0)).0) < 2 ^ 64
quarter_fits limb low table cells k i chances limited inside = omega (arith, more_most limb 32768 low table cells k i chances inside)

-- ---- a limb that is two others, one of them at a higher place

distributes : (w x a b scale : ℕ) → x ≡ a * scale + b → w * x ≡ w * a * scale + w * b
distributes w x a b scale e = rw e (omega arith)

pub limb_split : (whole upper lower : ℕ → ℕ) (scale : ℕ) → ((x : ℕ) → whole x ≡ upper x * scale + lower x) → (table : Table) (cells : List ℕ) (k : ℕ) →
    limb_sum whole table cells k ≡ limb_sum upper table cells k * scale + limb_sum lower table cells k
limb_split whole upper lower scale split [] cells k = omega arith
limb_split whole upper lower scale split (pair ∷ table) cells k =
    let x : ℕ = before (at cells) k pair.0 in
    omega (
      arith,
      distributes pair.1 (whole x) (upper x) (lower x) scale (split x),
      sum_by-cons (λ (p : ℕ × ℕ). p.1 * whole (before (at cells) k p.0)) pair table,
      ap (λ s. s * scale) (sum_by-cons (λ (p : ℕ × ℕ). p.1 * upper (before (at cells) k p.0)) pair table),
      sum_by-cons (λ (p : ℕ × ℕ). p.1 * lower (before (at cells) k p.0)) pair table,
      limb_split whole upper lower scale split table cells k,
    )

pub halves_join : (table : Table) (cells : List ℕ) (k : ℕ) → limb_sum high_half table cells k * 2 ^ 32 + limb_sum low_half table cells k ≡ weighted table cells k
halves_join table cells k = sym (limb_split (λ x. x) high_half low_half (2 ^ 32) (λ x. omega arith) table cells k)

-- the quarters are split off from the top one on
pub quarters_join : (table : Table) (cells : List ℕ) (k : ℕ) →
    joined (limb_sum top_quarter table cells k) (limb_sum high_quarter table cells k) (limb_sum middle_quarter table cells k) (limb_sum low_quarter table cells k) ≡ weighted table cells k
quarters_join table cells k =
    let top : weighted table cells k ≡ limb_sum top_quarter table cells k * 2 ^ 45 + limb_sum (λ x. x % 2 ^ 45) table cells k =
    limb_split (λ x. x) top_quarter (λ x. x % 2 ^ 45) (2 ^ 45) (λ x. omega arith) table cells k in
    let high : limb_sum (λ x. x % 2 ^ 45) table cells k ≡ limb_sum high_quarter table cells k * 2 ^ 30 + limb_sum (λ x. x % 2 ^ 30) table cells k =
    limb_split (λ x. x % 2 ^ 45) high_quarter (λ x. x % 2 ^ 30) (2 ^ 30) (λ x. omega arith) table cells k in
    let middle : limb_sum (λ x. x % 2 ^ 30) table cells k ≡ limb_sum middle_quarter table cells k * 2 ^ 15 + limb_sum low_quarter table cells k =
    limb_split (λ x. x % 2 ^ 30) middle_quarter low_quarter (2 ^ 15) (λ x. omega arith) table cells k in
    omega (arith, top, high, middle)
