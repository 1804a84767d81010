-- The steps of a list, place by place.
use Rattle.std.proofs.Common.{◌≡◌, ℕ, suc, ◌+◌, ◌-◌, ◌<◌, ◌≤◌, true, false, nat_lt, nat_le, List, [], ◌∷◌, ◌++◌, length, get_or, flat_map, refl, ap, ap₂, sym, ◌∙◌, arith, inl, inr}
use Rattle.std.specs.List.{range_with_len}
use Rattle.std.specs.List.Sorted.{IsNonDecreasing}
use Rattle.std.proofs.lemmas.Bool.{cases_lt, lt-ltb, le-ltb, le-leb, lt-leb}
use Rattle.prta_mass.specs.Chances.{at, before}
use Rattle.prta_dist.proofs.Cells.{at_rises, at_cell}
use Rattle.prta_certfile.specs.Steps.{steps_from, steps_of}
use Rattle.prta_certfile.specs.Text.{pair_text}
use Rattle.prta_writer.specs.Levels.{step_text}

-- what is written of a place: the step there, where the list rises
abbrev pub step_row : List ℕ → ℕ → List ℕ
step_row cells k = step_text (before (at cells) k 1) k (at cells k)

-- the cell before the next place is the one at this place
pub before_next : (cells : List ℕ) (k : ℕ) → before (at cells) (k + 1) 1 ≡ at cells k
before_next cells k =
    let later : nat_le 1 (k + 1) ≡ true = le-leb 1 (k + 1) (omega arith) in
    let place : k + 1 - 1 ≡ k = omega arith in
    rw later (ap (at cells) place)

before_low : (cells : List ℕ) (k : ℕ) → IsNonDecreasing cells → before (at cells) k 1 ≤ at cells k
before_low cells k rises =
    elim (cases_lt k 1) [
      | inl first ↦ rw (lt-leb 1 k first) (omega arith)
      | inr later ↦ rw (le-leb 1 k later) (at_rises cells (k - 1) k rises (omega arith))
    ]

-- the steps of the cells from place k on
rows_from : (cells : List ℕ) → IsNonDecreasing cells → (xs : List ℕ) (k value : ℕ) → ((j : ℕ) → j < length xs → get_or xs j 0 ≡ at cells (k + j)) → value ≡ before (at cells) k 1 →
    flat_map pair_text (steps_from k value xs) ≡ flat_map (step_row cells) (range_with_len k (length xs))
rows_from cells rises [] k value there e = refl
rows_from cells rises (x ∷ xs) k value there e =
    let place : k + 0 ≡ k = omega arith in
    let here : x ≡ at cells k = there 0 (omega arith) ∙ ap (at cells) place in
    let rest : (v : ℕ) → v ≡ x → flat_map pair_text (steps_from (k + 1) v xs) ≡ flat_map (step_row cells) (range_with_len (k + 1) (length xs)) =
    λ v is. rows_from cells rises xs (k + 1) v
    (λ j low.
    let next : k + suc j ≡ k + 1 + j = omega arith in
    there (suc j) (omega (arith, low)) ∙ ap (at cells) next)
    (is ∙ here ∙ sym (before_next cells k)) in
    elim (cases_lt value x) [
      | inl up ↦
          let row : step_row cells k ≡ pair_text (k, x) =
          let low : nat_lt (before (at cells) k 1) (at cells k) ≡ true = lt-ltb (before (at cells) k 1) (at cells k) (omega (arith, up, e, here)) in
          rw low (ap (λ v. pair_text (k, v)) (sym here)) in
          rw (lt-ltb value x up) (ap₂ (λ a b. a ++ b) (sym row) (rest x refl))
      | inr stays ↦
          let row : step_row cells k ≡ [] =
          let high : nat_lt (before (at cells) k 1) (at cells k) ≡ false = le-ltb (before (at cells) k 1) (at cells k) (omega (arith, stays, e, here)) in
          rw high refl in
          let same : value ≡ x = omega (arith, stays, e, here, before_low cells k rises) in
          rw (le-ltb value x stays) (rest value same ∙ sym (ap (λ a. a ++ flat_map (step_row cells) (range_with_len (k + 1) (length xs))) row))
    ]

-- the steps of a list are what is written of its places in turn
pub rows_of_steps : (cells : List ℕ) → IsNonDecreasing cells → flat_map (step_row cells) (range_with_len 0 (length cells)) ≡ flat_map pair_text (steps_of cells)
rows_of_steps cells rises = sym (rows_from cells rises cells 0 0 (λ j low. let place : j ≡ 0 + j = omega arith in at_cell cells j 0 low ∙ ap (at cells) place) refl)
