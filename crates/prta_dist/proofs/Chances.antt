-- An addition keeps a list of chances, and at places where the list is still it keeps the cells.
use Rattle.std.proofs.Common.{◌≡◌, ℕ, ◌+◌, ◌-◌, ◌*◌, ◌/◌, ◌%◌, ◌<◌, ◌≤◌, nat_lt, if◌then◌else◌, List, length, ◌∙◌, arith}
use Rattle.std.specs.Int.{div_ceil}
use Rattle.std.specs.List.Sorted.{IsNonDecreasing}
use Rattle.std.proofs.Math.Nat.{div-le_of_le-mul, div-mul-le_self, le-div_iff_mul-le, mul-div_cancel_left, mul-mod_right, lt_of_mul-lt-mul_right}
use Rattle.std.proofs.lemmas.Grind.{div_ceil_times}
use Rattle.std.proofs.lemmas.Bool.Decides.{nat_tests}
use Rattle.prta_mass.specs.Unit.{unit}
use Rattle.prta_mass.specs.Table.{Table, total, greatest, IsTable}
use Rattle.prta_mass.specs.Chances.{at, last, before, point, IsChances}
use Rattle.prta_mass.specs.Direction.{divided}
use Rattle.prta_mass.specs.declared.direction.Dir.{Dir}
use Rattle.prta_mass.specs.declared.direction.Dir.TheVariants.{Up, Down}
use Rattle.prta_mass.proofs.Latest.{times_low}
use Rattle.prta_dist.specs.Addition.{weighted, cell_added, cells_added, settled}
use Rattle.prta_dist.specs.Curve.{lower, raise}
use Rattle.prta_dist.specs.Laws.{AdditionsKeepChances}
use Rattle.prta_dist.proofs.Cells.{at_rises, at_past, at_limited, last-cells_of, chances_of, chances_settled}
use Rattle.prta_dist.proofs.Sums.{before_both, before_near, sum_most, sum_all, sum_rises}

-- ---- quotients

ceiling_most : (x m w : ℕ) → 0 < w → x ≤ m * w → div_ceil x w ≤ m
ceiling_most x m w some h =
    let below : div_ceil x w * w < x + w = (div_ceil_times x w some).1 in
    let lt : div_ceil x w * w < (m + 1) * w = omega arith in
    omega (arith, lt_of_mul-lt-mul_right w lt)

pub divided_most : (dir : Dir) (x m w : ℕ) → 0 < w → x ≤ m * w → divided dir x w ≤ m
divided_most Up x m w some h = div-le_of_le-mul w (omega arith)
divided_most Down x m w some h = ceiling_most x m w some h

pub divided_rises : (dir : Dir) (x y w : ℕ) → 0 < w → x ≤ y → divided dir x w ≤ divided dir y w
divided_rises Up x y w some h = (le-div_iff_mul-le some).1 (omega (arith, div-mul-le_self x w))
divided_rises Down x y w some h = ceiling_most x (div_ceil y w) w some (omega (arith, (div_ceil_times y w some).0))

-- without a remainder
pub divided_exact : (dir : Dir) (m w : ℕ) → 0 < w → divided dir (w * m) w ≡ m
divided_exact Up m w some = mul-div_cancel_left m some
divided_exact Down m w some = let rest : w * m % w ≡ 0 = mul-mod_right w m in let quotient : w * m / w ≡ m = mul-div_cancel_left m some in omega arith

-- ---- sums and cells

pub weighted_most : (table : Table) (cells : List ℕ) (k : ℕ) → IsChances cells → weighted table cells k ≤ total table * unit
weighted_most table cells k chances =
    sum_most table (before (at cells) k) unit (λ c. before_both (λ x. x ≤ unit) (at cells) k c (λ near. at_limited cells (k - c) chances) (λ far. omega arith))

before_rises : (cells : List ℕ) (i k c : ℕ) → IsNonDecreasing cells → i ≤ k → before (at cells) i c ≤ before (at cells) k c
before_rises cells i k c rising le = before_both (λ x. x ≤ before (at cells) k c) (at cells) i c
    (λ near. omega (arith, before_near (at cells) k c (omega arith), at_rises cells (i - c) (k - c) rising (omega arith)))
    (λ far. omega arith)

pub weighted_rises : (table : Table) (cells : List ℕ) (i k : ℕ) → IsNonDecreasing cells → i ≤ k → weighted table cells i ≤ weighted table cells k
weighted_rises table cells i k rising le = sum_rises table (before (at cells) i) (before (at cells) k) (λ c. before_rises cells i k c rising le)

pub cell_rises : (dir : Dir) (table : Table) (cells : List ℕ) (i k : ℕ) → 0 < total table → IsNonDecreasing cells → i ≤ k → cell_added dir table cells i ≤ cell_added dir table cells k
cell_rises dir table cells i k some rising le = divided_rises dir (weighted table cells i) (weighted table cells k) (total table) some (weighted_rises table cells i k rising le)

pub cell_most : (dir : Dir) (table : Table) (cells : List ℕ) (k : ℕ) → 0 < total table → IsChances cells → cell_added dir table cells k ≤ unit
cell_most dir table cells k some chances = divided_most dir (weighted table cells k) unit (total table) some (omega (arith, weighted_most table cells k chances))

-- ---- where the list is 0 at and before a place, so is the sum; where it has been still for the greatest time, the sum is the total times its value

pub weighted_none : (table : Table) (cells : List ℕ) (lo k : ℕ) → ((i : ℕ) → i < lo → at cells i ≡ 0) → k < lo → weighted table cells k ≡ 0
weighted_none table cells lo k zero below =
    let most : weighted table cells k ≤ total table * 0 =
    sum_most table (before (at cells) k) 0 (λ c. before_both (λ x. x ≤ 0) (at cells) k c (λ near. omega (arith, zero (k - c) (omega arith))) (λ far. omega arith)) in
    omega arith

pub weighted_still : (table : Table) (cells : List ℕ) (hi k : ℕ) → IsTable table → ((i : ℕ) → hi ≤ i → at cells i ≡ last cells) → hi + greatest table ≤ k → weighted table cells k ≡ total table * last cells
weighted_still table cells hi k is still far =
    sum_all table (before (at cells) k) (last cells) (λ i d h.
    let low = times_low table is i d h in
    before_near (at cells) k _ (omega arith) ∙ still _ (omega arith))

-- ---- the last cell doesn't rise

pub last_falls : (dir : Dir) (table : Table) (cells : List ℕ) → IsTable table → IsChances cells → 0 < length cells → last (cells_added dir table cells) ≤ last cells
last_falls dir table cells is chances some =
    let n : ℕ = length cells in
    let most : weighted table cells (n - 1) ≤ total table * last cells =
    sum_most table (before (at cells) (n - 1)) (last cells) (λ c. before_both (λ x. x ≤ last cells) (at cells) (n - 1) c
    (λ near. omega (arith, at_rises cells (n - 1 - c) (n - 1) chances.rising (omega arith), at_past cells (n - 1) (omega arith)))
    (λ far. omega arith)) in
    let new : last (cells_added dir table cells) ≡ cell_added dir table cells (n - 1) = last-cells_of n (cell_added dir table cells) some in
    omega (arith, divided_most dir (weighted table cells (n - 1)) (last cells) (total table) is.weighs (omega arith))

-- ---- the list

pub keep_chances : AdditionsKeepChances
keep_chances dir table cells is chances =
    let new : IsChances (cells_added dir table cells) =
    chances_of (length cells) (cell_added dir table cells)
    (λ i k le h. cell_rises dir table cells i k is.weighs chances.rising le)
    (λ k h. cell_most dir table cells k is.weighs chances) in
    (new, settled_chances dir (cells_added dir table cells) new)
  where
    settled_chances : (dir : Dir) (cells : List ℕ) → IsChances cells → IsChances (settled dir cells)
    settled_chances Up cells chances = chances
    settled_chances Down cells chances = chances_settled cells chances

-- ---- the lists that the other calls make

step_rises : (i k b top : ℕ) → i ≤ k → (if nat_lt i b then 0 else top) ≤ (if nat_lt k b then 0 else top)
step_rises i k b top le = grind (arith, nat_tests)

step_low : (k b top : ℕ) → (if nat_lt k b then 0 else top) ≤ top
step_low k b top = grind (arith, nat_tests)

pub point_chances : (n b : ℕ) → IsChances (point n b)
point_chances n b = chances_of n (λ k. if nat_lt k b then 0 else unit) (λ i k le h. step_rises i k b unit le) (λ k h. step_low k b unit)

lower_rises : (i k x y s top most : ℕ) → i ≤ k → x ≤ y → x ≤ most → (if nat_lt i top then x - s else most) ≤ (if nat_lt k top then y - s else most)
lower_rises i k x y s top most le up low = grind (arith, nat_tests)

lower_low : (k x s top most : ℕ) → x ≤ most → (if nat_lt k top then x - s else most) ≤ most
lower_low k x s top most low = grind (arith, nat_tests)

pub lower_chances : (s top : ℕ) (cells : List ℕ) → IsChances cells → IsChances (lower s top cells)
lower_chances s top cells chances =
    chances_of (length cells) (λ k. if nat_lt k top then at cells k - s else unit)
    (λ i k le h. lower_rises i k (at cells i) (at cells k) s top unit le (at_rises cells i k chances.rising le) (at_limited cells i chances))
    (λ k h. lower_low k (at cells k) s top unit (at_limited cells k chances))

raise_rises : (i k x y place value : ℕ) → i ≤ k → x ≤ y → (i < place → x ≤ value) → (if nat_lt i place then x else value) ≤ (if nat_lt k place then y else value)
raise_rises i k x y place value le up below = grind (arith, nat_tests)

raise_low : (k x place value most : ℕ) → x ≤ most → value ≤ most → (if nat_lt k place then x else value) ≤ most
raise_low k x place value most low limited = grind (arith, nat_tests)

pub raise_chances : (place value : ℕ) (cells : List ℕ) → IsChances cells → value ≤ unit → before (at cells) place 1 ≤ value → IsChances (raise place value cells)
raise_chances place value cells chances limited rising =
    chances_of (length cells) (λ k. if nat_lt k place then at cells k else value)
    (λ i k le h. raise_rises i k (at cells i) (at cells k) place value le (at_rises cells i k chances.rising le)
    (λ early. omega (arith, before_near (at cells) place 1 (omega arith), at_rises cells i (place - 1) chances.rising (omega arith))))
    (λ k h. raise_low k (at cells k) place value unit (at_limited cells k chances) limited)
