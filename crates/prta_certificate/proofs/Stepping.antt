-- A list of chances by its steps, cell by cell and step by step.
use Rattle.std.proofs.Common.{◌≡◌, ℕ, zero, suc, ◌+◌, ◌-◌, ◌≤◌, ◌<◌, nat_lt, nat_le, if◌then◌else◌, List, [], ◌∷◌, ◌++◌, take, fold, length, get_or, All, refl, ap, ap₂, sym, ◌∙◌, subst, arith, inl, inr}
use Rattle.std.proofs.Math.Path.{fun_ext}
use Rattle.std.proofs.lemmas.Bool.{cond_both, cases_lt, lt-ltb, le-ltb, le-leb, lt-leb}
use Rattle.std.proofs.lemmas.List.{append-nil, take_more, take_all, get_or-take, get_or-map, get_or_default, length-take-le}
use Rattle.std.proofs.lemmas.List.Elements.{All-take, All-head, All-tail}
use Rattle.std.proofs.lemmas.List.Kept.{AllPairs-from_increasing}
use Rattle.std.proofs.lemmas.List.Sorted.{IsNonDecreasingBy-take}
use Rattle.std.proofs.lemmas.List.Sums.{fold-append}
use Rattle.prta_mass.specs.Unit.{unit}
use Rattle.prta_mass.specs.Chances.{at, before, cells_of, last, IsChances}
use Rattle.prta_certfile.specs.Steps.{steps_of, value_at, values, cells_by_steps, IsSteps, AreBelow}
use Rattle.prta_certfile.specs.Laws.{StepsAreLists}
use Rattle.prta_dist.specs.Curve.{raise}
use Rattle.prta_dist.proofs.Cells.{at_cell, at_rises, at-cells_of, length-cells_of}
use Rattle.prta_dist.proofs.Sums.{before_both}

-- ---- from cells to steps

-- the steps of the first cells, and the last of these
pub record Taken (cells : List ℕ) (k : ℕ) (steps : List (ℕ × ℕ)) (value : ℕ) : Type 0 where
  pub steps_are : steps ≡ steps_of (take k cells)
  pub value_is : value ≡ last (take k cells)

module _ (cells : List ℕ) (chances : IsChances cells) (k : ℕ) (near : k < length cells) where
  one_more : take (k + 1) cells ≡ take k cells ++ at cells k ∷ []
  one_more = take_more cells k (last cells) near

  size : length (take k cells) ≡ k
  size = length-take-le k cells (omega arith)

  taken_chances : IsChances (take (k + 1) cells)
  taken_chances = record { rising = IsNonDecreasingBy-take (λ x. x) (k + 1) cells chances.rising; limited = All-take (λ cell. cell ≤ unit) (k + 1) cells chances.limited }

  last_taken : last (take (k + 1) cells) ≡ at cells k
  last_taken =
      let place : length (take (k + 1) cells) - 1 ≡ k = omega (arith, length-take-le (k + 1) cells (omega arith)) in
      ap (λ i. get_or (take (k + 1) cells) i 0) place ∙ get_or-take (k + 1) cells k 0 (omega arith) ∙ at_cell cells k 0 near

-- the last of the first cells isn't above the next
last_low : (cells : List ℕ) (k : ℕ) → IsChances cells → k < length cells → last (take k cells) ≤ at cells k
last_low cells zero chances near = omega arith
last_low cells (suc k) chances near =
    let e : suc k ≡ k + 1 = omega arith in
    let before : last (take (suc k) cells) ≡ at cells k = ap (λ i. last (take i cells)) e ∙ last_taken cells chances k (omega arith) in
    omega (arith, before, at_rises cells k (suc k) chances.rising (omega arith))

module _ (law : StepsAreLists) (cells : List ℕ) (chances : IsChances cells) (k : ℕ) (near : k < length cells) (steps : List (ℕ × ℕ)) (value : ℕ) (was : Taken cells k steps value) (cell : ℕ) (cell_is : cell ≡ at cells k) where
  -- one more cell
  steps_more : steps_of (take (k + 1) cells) ≡ steps ++ (if nat_lt value (at cells k) then (k, at cells k) ∷ [] else [])
  steps_more =
      let rising = subst IsChances (one_more cells chances k near) (taken_chances cells chances k near) in
      ap steps_of (one_more cells chances k near)
      ∙ law.more (take k cells) (at cells k) rising.rising
      ∙ ap (λ n. steps_of (take k cells) ++ (if nat_lt (last (take k cells)) (at cells k) then (n, at cells k) ∷ [] else [])) (size cells chances k near)
      ∙ ap₂ (λ s v. s ++ (if nat_lt v (at cells k) then (k, at cells k) ∷ [] else [])) (sym was.steps_are) (sym was.value_is)

  step_more : value < cell → steps_of (take (k + 1) cells) ≡ steps ++ (k, cell) ∷ []
  step_more up = steps_more ∙ ap (λ b. steps ++ (if b then (k, at cells k) ∷ [] else [])) (lt-ltb value (at cells k) (omega (arith, up, cell_is))) ∙ ap (λ x. steps ++ (k, x) ∷ []) (sym cell_is)

  -- that is above the last one is one more step
  pub rises_on : value < cell → IsSteps (steps ++ (k, cell) ∷ [])
  rises_on up = subst IsSteps (step_more up) (law.rise (take (k + 1) cells) (taken_chances cells chances k near))

  pub taken_rise : value < cell → Taken cells (k + 1) (steps ++ (k, cell) ∷ []) cell
  taken_rise up = record { steps_are = sym (step_more up); value_is = cell_is ∙ sym (last_taken cells chances k near) }

  -- and another is none
  pub taken_still : cell ≤ value → Taken cells (k + 1) steps value
  taken_still low =
      let same : value ≡ at cells k = omega (arith, low, cell_is, was.value_is, last_low cells k chances near) in
      record {
        steps_are = sym (steps_more ∙ ap (λ b. steps ++ (if b then (k, at cells k) ∷ [] else [])) (le-ltb value (at cells k) (omega (arith, same))) ∙ append-nil steps);
        value_is = same ∙ sym (last_taken cells chances k near);
      }

pub taken_same : (cells : List ℕ) (k : ℕ) (steps now : List (ℕ × ℕ)) (value value_now : ℕ) → now ≡ steps → value_now ≡ value → Taken cells k steps value → Taken cells k now value_now
taken_same cells k steps now value value_now same same_value was = record { steps_are = same ∙ was.steps_are; value_is = same_value ∙ was.value_is }

pub taken_all : (cells : List ℕ) (k : ℕ) (steps : List (ℕ × ℕ)) (value : ℕ) → Taken cells k steps value → length cells ≤ k → steps ≡ steps_of cells
taken_all cells k steps value was end = was.steps_are ∙ ap steps_of (take_all k cells end)

-- ---- from steps to cells

-- the value after one more step
abbrev further : ℕ → ℕ → ℕ × ℕ → ℕ
further k value step = if nat_le step.0 k then step.1 else value

-- is at most a number that no value is above
value_low : (most k value : ℕ) (steps : List (ℕ × ℕ)) → value ≤ most → All (λ step. step.1 ≤ most) steps → fold (further k) value steps ≤ most
value_low most k value [] low each = low
value_low most k value (step ∷ steps) low each =
    value_low most k (further k value step) steps
    (cond_both (nat_le step.0 k) step.1 value (λ v. v ≤ most) (λ e. All-head (λ (s : ℕ × ℕ). s.1 ≤ most) step steps each) (λ e. low))
    (All-tail (λ (s : ℕ × ℕ). s.1 ≤ most) step steps each)

module _ (steps : List (ℕ × ℕ)) (is : IsSteps steps) (i : ℕ) (step : ℕ × ℕ) (near : i < length steps) (here : get_or steps i step ≡ step) where
  value_is : (j : ℕ) (d : ℕ × ℕ) → j < length steps → get_or (0 ∷ values steps) (suc j) 0 ≡ (get_or steps j d).1
  value_is j d l = get_or-map (λ (s : ℕ × ℕ). s.1) steps j d 0 l

  -- the steps before one are below it
  earlier_low : All (λ s. s.1 ≤ step.1) (take i steps)
  earlier_low j d l =
      let count : length (take i steps) ≡ i = length-take-le i steps (omega arith) in
      let early : j < i = omega arith in
      let sizes : length (0 ∷ values steps) ≡ suc (length steps) = size_of steps in
      let up : get_or (0 ∷ values steps) (suc j) 0 < get_or (0 ∷ values steps) (suc i) 0 = AllPairs-from_increasing (0 ∷ values steps) is.rising_values (suc j) (suc i) 0 (omega arith) (omega arith) in
      omega (arith, ap (λ (s : ℕ × ℕ). s.1) (get_or-take i steps j d early), value_is j d (omega arith), value_is i step near, ap (λ (s : ℕ × ℕ). s.1) here, up)
    where
      size_of : (ss : List (ℕ × ℕ)) → length (0 ∷ values ss) ≡ suc (length ss)
      size_of [] = refl
      size_of (s ∷ ss) = ap suc (size_of ss)

  pub step_limited : step.1 ≤ unit
  step_limited = omega (arith, is.limited i step near, ap (λ (s : ℕ × ℕ). s.1) here)

  module _ (n : ℕ) (below : AreBelow n steps) (cells : List ℕ) (cells_are : cells ≡ cells_by_steps n (take i steps)) where
    abbrev so_far : ℕ → ℕ
    so_far = value_at (take i steps)

    count : length cells ≡ n
    count = ap length cells_are ∙ length-cells_of n so_far

    pub step_inside : step.0 < length cells
    step_inside = omega (arith, count, below i step near, ap (λ (s : ℕ × ℕ). s.0) here)

    pub step_rises : before (at cells) step.0 1 ≤ step.1
    step_rises = before_both (λ x. x ≤ step.1) (at cells) step.0 1
        (λ later.
        let read : at cells (step.0 - 1) ≡ so_far (step.0 - 1) = ap (λ c. at c (step.0 - 1)) cells_are ∙ at-cells_of n so_far (step.0 - 1) (omega (arith, step_inside, count)) in
        omega (arith, read, value_low step.1 (step.0 - 1) 0 (take i steps) (omega arith) earlier_low))
        (λ first. omega arith)

    -- raised from the next step on, they are those of one more step
    pub cells_more : raise step.0 step.1 cells ≡ cells_by_steps n (take (i + 1) steps)
    cells_more =
        ap (λ m. cells_of m (λ k. if nat_lt k step.0 then at cells k else step.1)) count
        ∙ ap (cells_of n) (fun_ext same)
        ∙ ap (cells_by_steps n) (sym (take_more steps i step near ∙ ap (λ s. take i steps ++ s ∷ []) here))
      where
        same : (k : ℕ) → (if nat_lt k step.0 then at cells k else step.1) ≡ value_at (take i steps ++ step ∷ []) k
        same k =
            let read : k < step.0 → at cells k ≡ so_far k = λ l. ap (λ c. at c k) cells_are ∙ at-cells_of n so_far k (omega (arith, step_inside, count)) in
            let both : (if nat_lt k step.0 then at cells k else step.1) ≡ further k (so_far k) step = elim (cases_lt k step.0) [
              | inl l ↦ rw (lt-ltb k step.0 l, lt-leb step.0 k l) (read l)
              | inr l ↦ rw (le-ltb k step.0 l, le-leb step.0 k l) refl
            ] in
            both ∙ sym (fold-append (further k) 0 (take i steps) (step ∷ []))

-- without a step each cell is 0
pub cells_none : (cells : List ℕ) → raise 0 0 cells ≡ cells_by_steps (length cells) []
cells_none cells = ap (cells_of (length cells)) (fun_ext (λ k. rw (le-ltb k 0 (omega arith)) refl))

pub steps_all : (n i : ℕ) (steps : List (ℕ × ℕ)) (cells : List ℕ) → cells ≡ cells_by_steps n (take i steps) → length steps ≤ i → cells ≡ cells_by_steps n steps
steps_all n i steps cells are end = are ∙ ap (cells_by_steps n) (take_all i steps end)

-- a step that is read off equal steps
pub step_here : (items steps : List (ℕ × ℕ)) (i : ℕ) → items ≡ steps → i < length items → (i < length steps) × (get_or steps i (get_or items i (0, 0)) ≡ get_or items i (0, 0))
step_here items steps i same near =
    (omega (arith, near, ap length same), ap (λ xs. get_or xs i (get_or items i (0, 0))) (sym same) ∙ get_or_default items i (get_or items i (0, 0)) (0, 0) near)
