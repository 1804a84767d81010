-- Shifted lists at every place.
use Rattle.std.proofs.Common.{◌≡◌, ℕ, ◌+◌, ◌-◌, ◌<◌, ◌≤◌, min, List, length, All, get_or, set, ap, sym, ◌∙◌, arith, ⊎_elim}
use Rattle.std.specs.List.Sorted.{IsNonDecreasing}
use Rattle.std.proofs.lemmas.List.{get_or_past, get_or_default}
use Rattle.std.proofs.lemmas.List.FromFn.{length-map-range_with_len, get_or-map-range_with_len, fill_by_all}
use Rattle.std.proofs.lemmas.List.Edits.{fill_by_more}
use Rattle.std.proofs.lemmas.List.Sorted.{IsNonDecreasingBy-from_default}
use Rattle.std.proofs.lemmas.Bool.{cases_lt}
use Rattle.prta_mass.specs.Unit.{unit}
use Rattle.prta_mass.specs.Chances.{at, last}
use Rattle.prta_shift.specs.Shift.{shifted}
use Rattle.prta_shift.specs.Laws.{ShiftsAdd, ShiftsKeepChances, ShiftsReadLater}

pub length-shifted : (t : ℕ) (cells : List ℕ) → length (shifted t cells) ≡ length cells
length-shifted t cells = length-map-range_with_len (λ k. at cells (k + t)) 0 (length cells)

cell_shifted : (t : ℕ) (cells : List ℕ) (k d : ℕ) → k < length cells → get_or (shifted t cells) k d ≡ at cells (k + t)
cell_shifted t cells k d h = get_or-map-range_with_len (λ k. at cells (k + t)) 0 (length cells) k k d h (omega arith)

-- a cell's value is the value at its place
pub at_cell : (cells : List ℕ) (k d : ℕ) → k < length cells → get_or cells k d ≡ at cells k
at_cell cells k d h = get_or_default cells k d (last cells) h

-- from the last cell on
pub at_past : (cells : List ℕ) (k : ℕ) → length cells - 1 ≤ k → at cells k ≡ last cells
at_past cells k h = ⊎_elim
    (λ (l : k < length cells). let e : k ≡ length cells - 1 = omega arith in ap (λ i. get_or cells i (last cells)) e ∙ get_or_default cells (length cells - 1) (last cells) 0 (omega arith))
    (λ (l : length cells ≤ k). get_or_past cells k (last cells) l)
    (cases_lt k (length cells))

last_shifted : (t : ℕ) (cells : List ℕ) → 0 < length cells → last (shifted t cells) ≡ last cells
last_shifted t cells some =
    ap (λ n. get_or (shifted t cells) (n - 1) 0) (length-shifted t cells) ∙ cell_shifted t cells (length cells - 1) 0 (omega arith) ∙ at_past cells (length cells - 1 + t) (omega arith)

pub reads_later : ShiftsReadLater
reads_later t cells k some = ⊎_elim
    (λ (l : k < length cells). cell_shifted t cells k _ l)
    (λ (l : length cells ≤ k). at_past (shifted t cells) k (omega (arith, length-shifted t cells)) ∙ last_shifted t cells some ∙ sym (at_past cells (k + t) (omega arith)))
    (cases_lt k (length cells))

pub shift_again : ShiftsAdd
shift_again a b cells some =
    let f : ℕ → ℕ = λ k. at cells (k + (a + b)) in
    let size : length (shifted b (shifted a cells)) ≡ length cells = length-shifted b (shifted a cells) ∙ length-shifted a cells in
    fill_by_all f (shifted b (shifted a cells)) (length cells) 0 size (λ k low.
    cell_shifted b (shifted a cells) k 0 (omega (arith, length-shifted a cells))
    ∙ reads_later a cells (k + b) some
    ∙ (let e : k + b + a ≡ k + (a + b) = omega arith in ap (λ n. at cells n) e))

-- the values of a list of chances don't fall, and none is above the unit
pub at_rises : (cells : List ℕ) (i j : ℕ) → IsNonDecreasing cells → i ≤ j → 0 < length cells → at cells i ≤ at cells j
at_rises cells i j rising le some = ⊎_elim
    (λ (l : j < length cells). rising i j (last cells) le l)
    (λ (l : length cells ≤ j). ⊎_elim
    (λ (m : i < length cells).
    let ends : at cells j ≡ at cells (length cells - 1) = at_past cells j (omega arith) ∙ sym (at_past cells (length cells - 1) (omega arith)) in
    rw ends (rising i (length cells - 1) (last cells) (omega arith) (omega arith)))
    (λ (m : length cells ≤ i). let e : at cells i ≡ at cells j = at_past cells i (omega arith) ∙ sym (at_past cells j (omega arith)) in omega (arith, e))
    (cases_lt i (length cells)))
    (cases_lt j (length cells))

pub at_limited : (cells : List ℕ) (k : ℕ) → All (λ cell. cell ≤ unit) cells → 0 < length cells → at cells k ≤ unit
at_limited cells k low some = ⊎_elim
    (λ (l : k < length cells). low k (last cells) l)
    (λ (l : length cells ≤ k). rw (at_past cells k (omega arith)) (low (length cells - 1) 0 (omega arith)))
    (cases_lt k (length cells))

pub shifts_chances : ShiftsKeepChances
shifts_chances t cells is =
    record {
      chances = record {
        rising = IsNonDecreasingBy-from_default (λ x. x) (shifted t cells) 0 (λ i j le low.
            let short : j < length cells = omega (arith, length-shifted t cells) in
            let a = cell_shifted t cells i 0 (omega arith) in
            let b = cell_shifted t cells j 0 short in
            rw (a, b) (at_rises cells (i + t) (j + t) is.rising (omega arith) (omega arith)));
        limited = λ k d low.
            let short : k < length cells = omega (arith, length-shifted t cells) in
            rw (cell_shifted t cells k d short) (at_limited cells (k + t) is.limited (omega arith));
      };
      size = length-shifted t cells;
      ending = ⊎_elim (λ (l : length cells < 1). get_or_past (shifted t cells) _ 0 (omega (arith, length-shifted t cells)) ∙ sym (get_or_past cells (length cells - 1) 0 (omega arith))) (λ (l : 1 ≤ length cells). last_shifted t cells (omega arith)) (cases_lt (length cells) 1);
    }

-- a list with the shifted cells is the shift
pub is_shifted : (t : ℕ) (cells after : List ℕ) → length after ≡ length cells → ((k : ℕ) → k < length cells → get_or after k 0 ≡ at cells (k + t)) → after ≡ shifted t cells
is_shifted t cells after size same = fill_by_all (λ k. at cells (k + t)) after (length cells) 0 size same

-- what is read where cells are left, and past them
pub kept_cell : (t gone n k : ℕ) (cells : List ℕ) → n ≡ length cells → gone ≡ min t n → k < n - gone → get_or cells (gone + k) 0 ≡ at cells (k + t)
kept_cell t gone n k cells size is low =
    let e : gone + k ≡ k + t = omega arith in
    rw e (at_cell cells (k + t) 0 (omega arith))

pub past_cell : (t gone n k last : ℕ) (cells : List ℕ) → n ≡ length cells → gone ≡ min t n → n - gone ≤ k → k < n → last ≡ get_or cells (n - 1) 0 → last ≡ at cells (k + t)
past_cell t gone n k last cells size is low below e =
    e ∙ ap (λ m. get_or cells (m - 1) 0) size ∙ sym (at_past cells (k + t) (omega arith))

-- one more cell is written
pub fill_more_by : (f : ℕ → ℕ) (xs : List ℕ) (i v : ℕ) → i < length xs → v ≡ f i → ((k : ℕ) → k < i → get_or xs k 0 ≡ f k) → (k : ℕ) → k < i + 1 → get_or (set xs i v) k 0 ≡ f k
fill_more_by f xs i v low e before k l = rw e (fill_by_more f xs i 0 low before k l)
