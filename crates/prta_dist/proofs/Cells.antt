-- Values of lists of chances at every place.
use Rattle.std.proofs.Common.{◌≡◌, ℕ, ◌-◌, ◌<◌, ◌≤◌, List, length, All, get_or, set, ap, sym, ◌∙◌, arith, ⊎_elim}
use Rattle.std.specs.List.Sorted.{IsNonDecreasing}
use Rattle.std.proofs.lemmas.List.{get_or_past, get_or_default, length-set, get_or-set_same, get_or-set_other}
use Rattle.std.proofs.lemmas.List.FromFn.{length-map-range_with_len, get_or-map-range_with_len}
use Rattle.std.proofs.lemmas.List.Sorted.{IsNonDecreasingBy-from_default}
use Rattle.std.proofs.lemmas.Bool.{cases_lt}
use Rattle.prta_mass.specs.Unit.{unit}
use Rattle.prta_mass.specs.Chances.{at, last, cells_of, IsChances}

-- a cell's value is the value at its place
pub at_cell : (cells : List ℕ) (k d : ℕ) → k < length cells → get_or cells k d ≡ at cells k
at_cell cells k d h = get_or_default cells k d (last cells) h

-- the last cell's is the value at its place, and at every place from it on
pub at_past : (cells : List ℕ) (k : ℕ) → length cells - 1 ≤ k → at cells k ≡ last cells
at_past cells k h = ⊎_elim
    (λ (l : k < length cells). let e : k ≡ length cells - 1 = omega arith in ap (λ i. get_or cells i (last cells)) e ∙ get_or_default cells (length cells - 1) (last cells) 0 (omega arith))
    (λ (l : length cells ≤ k). get_or_past cells k (last cells) l)
    (cases_lt k (length cells))

pub length-cells_of : (n : ℕ) (F : ℕ → ℕ) → length (cells_of n F) ≡ n
length-cells_of n F = length-map-range_with_len F 0 n

pub cell-cells_of : (n : ℕ) (F : ℕ → ℕ) (k d : ℕ) → k < n → get_or (cells_of n F) k d ≡ F k
cell-cells_of n F k d h = get_or-map-range_with_len F 0 n k k d h (omega arith)

pub at-cells_of : (n : ℕ) (F : ℕ → ℕ) (k : ℕ) → k < n → at (cells_of n F) k ≡ F k
at-cells_of n F k h = cell-cells_of n F k (last (cells_of n F)) h

pub last-cells_of : (n : ℕ) (F : ℕ → ℕ) → 0 < n → last (cells_of n F) ≡ F (n - 1)
last-cells_of n F some = ap (λ m. get_or (cells_of n F) (m - 1) 0) (length-cells_of n F) ∙ cell-cells_of n F (n - 1) 0 (omega arith)

-- the values don't fall, and none is above the unit
pub at_rises : (cells : List ℕ) (i k : ℕ) → IsNonDecreasing cells → i ≤ k → at cells i ≤ at cells k
at_rises cells i k rising le = ⊎_elim
    (λ (l : k < length cells). rising i k (last cells) le l)
    (λ (l : length cells ≤ k). ⊎_elim
    (λ (m : i < length cells).
    let up : at cells i ≤ at cells (length cells - 1) = rising i (length cells - 1) (last cells) (omega arith) (omega arith) in
    omega (arith, at_past cells k (omega arith), at_past cells (length cells - 1) (omega arith)))
    (λ (m : length cells ≤ i). omega (arith, at_past cells k (omega arith), at_past cells i (omega arith)))
    (cases_lt i (length cells)))
    (cases_lt k (length cells))

pub cell_limited : (cells : List ℕ) (k : ℕ) → All (λ cell. cell ≤ unit) cells → get_or cells k 0 ≤ unit
cell_limited cells k limited = ⊎_elim
    (λ (l : k < length cells). limited k 0 l)
    (λ (l : length cells ≤ k). let none : get_or cells k 0 ≡ 0 = get_or_past cells k 0 l in omega arith)
    (cases_lt k (length cells))

pub last_limited : (cells : List ℕ) → IsChances cells → last cells ≤ unit
last_limited cells chances = cell_limited cells (length cells - 1) chances.limited

pub at_limited : (cells : List ℕ) (k : ℕ) → IsChances cells → at cells k ≤ unit
at_limited cells k chances = ⊎_elim
    (λ (l : k < length cells). chances.limited k (last cells) l)
    (λ (l : length cells ≤ k). omega (arith, at_past cells k (omega arith), last_limited cells chances))
    (cases_lt k (length cells))

-- cells that don't fall and are at most the unit are a list of chances
pub chances_by : (cells : List ℕ) → ((i k : ℕ) → i ≤ k → k < length cells → get_or cells i 0 ≤ get_or cells k 0) → ((k : ℕ) → k < length cells → get_or cells k 0 ≤ unit) → IsChances cells
chances_by cells rises low = record {
  rising = IsNonDecreasingBy-from_default (λ x. x) cells 0 rises;
  limited = λ k d h. omega (arith, low k h, get_or_default cells k d 0 h);
}

pub chances_of : (n : ℕ) (F : ℕ → ℕ) → ((i k : ℕ) → i ≤ k → k < n → F i ≤ F k) → ((k : ℕ) → k < n → F k ≤ unit) → IsChances (cells_of n F)
chances_of n F rises low =
    let size : length (cells_of n F) ≡ n = length-cells_of n F in
    chances_by (cells_of n F)
    (λ i k le h. omega (arith, cell-cells_of n F i 0 (omega arith), cell-cells_of n F k 0 (omega arith), rises i k le (omega arith)))
    (λ k h. omega (arith, cell-cells_of n F k 0 (omega arith), low k (omega arith)))

-- the last cell set to the unit
pub chances_settled : (cells : List ℕ) → IsChances cells → IsChances (set cells (length cells - 1) unit)
chances_settled cells chances =
    let n : ℕ = length cells in
    let new : List ℕ = set cells (n - 1) unit in
    let size : length new ≡ n = length-set cells (n - 1) unit in
    let top : 0 < n → get_or new (n - 1) 0 ≡ unit = λ some. get_or-set_same cells (n - 1) unit 0 (omega arith) in
    let other : (k : ℕ) → k < n - 1 → get_or new k 0 ≡ get_or cells k 0 = λ k h. get_or-set_other cells (n - 1) k unit 0 (omega arith) in
    let low : (k : ℕ) → k < n → get_or new k 0 ≤ unit = λ k h. ⊎_elim
    (λ (l : k < n - 1). omega (arith, other k l, cell_limited cells k chances.limited))
    (λ (l : n - 1 ≤ k). let e : k ≡ n - 1 = omega arith in let t : get_or new k 0 ≡ unit = ap (λ i. get_or new i 0) e ∙ top (omega arith) in omega arith)
    (cases_lt k (n - 1)) in
    chances_by new
    (λ i k le h. ⊎_elim
    (λ (l : k < n - 1). omega (arith, other k l, other i (omega arith), chances.rising i k 0 le (omega arith)))
    (λ (l : n - 1 ≤ k). let e : k ≡ n - 1 = omega arith in let t : get_or new k 0 ≡ unit = ap (λ i. get_or new i 0) e ∙ top (omega arith) in omega (arith, low i (omega arith)))
    (cases_lt k (n - 1)))
    (λ k h. low k (omega arith))

-- where the cells from a place on are the last one's, so is the value at every place from it on
pub still_cells : (cells : List ℕ) (from : ℕ) → ((k : ℕ) → from ≤ k → k < length cells → get_or cells k 0 ≡ last cells) → (k : ℕ) → from ≤ k → at cells k ≡ last cells
still_cells cells from h k le = ⊎_elim
    (λ (l : k < length cells). sym (at_cell cells k 0 l) ∙ h k le l)
    (λ (l : length cells ≤ k). at_past cells k (omega arith))
    (cases_lt k (length cells))
