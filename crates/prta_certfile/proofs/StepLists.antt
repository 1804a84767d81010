-- A list of chances is determined by its steps, and steps by the list.
use Rattle.std.proofs.Common.{◌≡◌, ◌↔◌, ℕ, zero, suc, ◌+◌, ◌-◌, ◌<◌, ◌≤◌, true, ◌&&◌, nat_lt, nat_le, if◌then◌else◌, List, [], ◌∷◌, ◌++◌, map, fold, length, get_or, All, refl, ap, sym, ◌∙◌, subst, arith, ⊎_elim, zero-add}
use Rattle.std.specs.List.{range_with_len}
use Rattle.std.specs.List.Sorted.{IsNonDecreasing, IsStrictlyIncreasing}
use Rattle.std.proofs.lemmas.List.FromFn.{fill_by_all, length-map-range_with_len, get_or-map-range_with_len}
use Rattle.std.proofs.lemmas.List.{get_or_default}
use Rattle.std.proofs.lemmas.List.Elements.{All-nil, All-cons, All-head, All-tail, All-weaker}
use Rattle.std.proofs.lemmas.List.Sorted.{IsNonDecreasingBy-from_default}
use Rattle.std.proofs.lemmas.Bool.{cond_both, cases_lt, and_parts, and_from, lt-ltb, le-ltb, le-leb, lt-leb, ltb-true, ltb-false, leb-true}
use Rattle.prta_mass.specs.Unit.{unit}
use Rattle.prta_mass.specs.Chances.{last, cells_of, IsChances, IsWhole}
use Rattle.prta_certfile.specs.Steps.{steps_from, steps_of, value_at, cells_by_steps, places, values, IsSteps, AreBelow, last_value, IsWholeSteps}
use Rattle.prta_certfile.specs.Reading.{rise_from}
use Rattle.prta_certfile.specs.Laws.{AreWholeChances}

-- ---- steps by recursion

-- each place is at least `from`, and above the one before; each value is above the one before, the first above `value`
abbrev pub Climbs : ℕ → ℕ → List (ℕ × ℕ) → Type 0
Climbs from value [] = Unit {0}
Climbs from value (step ∷ steps) = (from ≤ step.0) × (value < step.1) × Climbs (step.0 + 1) step.1 steps

pub climbs_lower : (from value low less : ℕ) (steps : List (ℕ × ℕ)) → low ≤ from → less ≤ value → Climbs from value steps → Climbs low less steps
climbs_lower from value low less [] a b h = tt
climbs_lower from value low less (step ∷ steps) a b h = (omega (arith, h.0), omega (arith, h.1), h.2)

-- the test of reading decides it
pub climbs_tested : (from value : ℕ) (steps : List (ℕ × ℕ)) → rise_from from value steps ≡ true → Climbs from value steps
climbs_tested from value [] h = tt
climbs_tested from value (step ∷ steps) h =
    let (here, later) = and_parts (nat_le from step.0 && nat_lt value step.1) (rise_from (step.0 + 1) step.1 steps) h in
    let (place, more) = and_parts (nat_le from step.0) (nat_lt value step.1) here in
    (leb-true from step.0 place, ltb-true value step.1 more, climbs_tested (step.0 + 1) step.1 steps later)

pub tested_climbs : (from value : ℕ) (steps : List (ℕ × ℕ)) → Climbs from value steps → rise_from from value steps ≡ true
tested_climbs from value [] h = refl
tested_climbs from value (step ∷ steps) h =
    and_from (nat_le from step.0 && nat_lt value step.1) (rise_from (step.0 + 1) step.1 steps)
    (and_from (nat_le from step.0) (nat_lt value step.1) (le-leb from step.0 h.0) (lt-ltb value step.1 h.1))
    (tested_climbs (step.0 + 1) step.1 steps h.2)

-- ---- rising numbers

rising_tail : (x : ℕ) (xs : List ℕ) → IsStrictlyIncreasing (x ∷ xs) → IsStrictlyIncreasing xs
rising_tail x xs h k l =
    let e : suc k + 1 ≡ suc (k + 1) = omega arith in
    subst (λ i. get_or xs k 0 < get_or (x ∷ xs) i 0) e (h (suc k) (omega arith))

rising_head : (x y : ℕ) (xs : List ℕ) → IsStrictlyIncreasing (x ∷ y ∷ xs) → x < y
rising_head x y xs h = h 0 (omega arith)

rising_cons : (x y : ℕ) (xs : List ℕ) → x < y → IsStrictlyIncreasing (y ∷ xs) → IsStrictlyIncreasing (x ∷ y ∷ xs)
rising_cons x y xs l h zero m = l
rising_cons x y xs l h (suc k) m =
    let e : suc (k + 1) ≡ suc k + 1 = omega arith in
    subst (λ i. get_or (y ∷ xs) k 0 < get_or (x ∷ y ∷ xs) i 0) e (h k (omega arith))

rising_one : (x : ℕ) → IsStrictlyIncreasing (x ∷ [])
rising_one x k l = absurd (omega arith)

climbs_after : (p v : ℕ) (steps : List (ℕ × ℕ)) → IsStrictlyIncreasing (p ∷ places steps) → IsStrictlyIncreasing (v ∷ values steps) → Climbs (p + 1) v steps
climbs_after p v [] a b = tt
climbs_after p v (step ∷ steps) a b =
    let place : p < step.0 = rising_head p step.0 (places steps) a in
    (omega arith, rising_head v step.1 (values steps) b, climbs_after step.0 step.1 steps (rising_tail p (places (step ∷ steps)) a) (rising_tail v (values (step ∷ steps)) b))

pub climbs_from_steps : (steps : List (ℕ × ℕ)) → IsSteps steps → Climbs 0 0 steps
climbs_from_steps [] h = tt
climbs_from_steps (step ∷ steps) h =
    (omega arith, rising_head 0 step.1 (values steps) h.rising_values, climbs_after step.0 step.1 steps h.rising_places (rising_tail 0 (values (step ∷ steps)) h.rising_values))

rising_places : (p v : ℕ) (steps : List (ℕ × ℕ)) → Climbs (p + 1) v steps → IsStrictlyIncreasing (p ∷ places steps)
rising_places p v [] h = rising_one p
rising_places p v (step ∷ steps) h = rising_cons p step.0 (places steps) (omega (arith, h.0)) (rising_places step.0 step.1 steps h.2)

rising_values : (p v : ℕ) (steps : List (ℕ × ℕ)) → Climbs p v steps → IsStrictlyIncreasing (v ∷ values steps)
rising_values p v [] h = rising_one v
rising_values p v (step ∷ steps) h = rising_cons v step.1 (values steps) h.1 (rising_values (step.0 + 1) step.1 steps h.2)

first_places : (steps : List (ℕ × ℕ)) → Climbs 0 0 steps → IsStrictlyIncreasing (places steps)
first_places [] h = λ k l. absurd (omega arith)
first_places (step ∷ steps) h = rising_places step.0 step.1 steps h.2

pub steps_from_climbs : (steps : List (ℕ × ℕ)) → Climbs 0 0 steps → All (λ step. step.1 ≤ unit) steps → IsSteps steps
steps_from_climbs steps h limited = record {
  rising_places = first_places steps h;
  rising_values = rising_values 0 0 steps h;
  limited = limited;
}

-- ---- the last value

last_more : (step next : ℕ × ℕ) (steps : List (ℕ × ℕ)) → last_value (step ∷ next ∷ steps) ≡ last_value (next ∷ steps)
last_more step next steps =
    let e : length (step ∷ next ∷ steps) - 1 ≡ suc (length (next ∷ steps) - 1) = omega arith in
    ap (λ i. (get_or (step ∷ next ∷ steps) i (0, 0)).1) e

-- no value is above the last one
pub last_greatest : (from value : ℕ) (steps : List (ℕ × ℕ)) → Climbs from value steps → All (λ step. step.1 ≤ last_value steps) steps
last_greatest from value [] h = All-nil _
last_greatest from value (step ∷ []) h = All-cons (λ s. s.1 ≤ step.1) step [] (omega arith) (All-nil _)
last_greatest from value (step ∷ next ∷ steps) h =
    let later : All (λ s. s.1 ≤ last_value (next ∷ steps)) (next ∷ steps) = last_greatest (step.0 + 1) step.1 (next ∷ steps) h.2 in
    let first : next.1 ≤ last_value (next ∷ steps) = All-head (λ s. s.1 ≤ last_value (next ∷ steps)) next steps later in
    let above : step.1 < next.1 = h.2.1 in
    let same = last_more step next steps in
    All-cons (λ s. s.1 ≤ last_value (step ∷ next ∷ steps)) step (next ∷ steps) (omega arith)
    (All-weaker (λ s. s.1 ≤ last_value (next ∷ steps)) (λ s. s.1 ≤ last_value (step ∷ next ∷ steps)) (λ s l. omega arith) (next ∷ steps) later)

pub whole_climbs : (steps : List (ℕ × ℕ)) → Climbs 0 0 steps → IsWholeSteps steps → IsSteps steps
whole_climbs steps h whole =
    steps_from_climbs steps h (All-weaker (λ s. s.1 ≤ last_value steps) (λ s. s.1 ≤ unit) (λ s l. omega (arith, whole)) steps (last_greatest 0 0 steps h))

-- ---- the steps of cells

pub steps_climb : (k value : ℕ) (xs : List ℕ) → Climbs k value (steps_from k value xs)
steps_climb k value [] = tt
steps_climb k value (x ∷ xs) =
    cond_both (nat_lt value x) ((k, x) ∷ steps_from (k + 1) x xs) (steps_from (k + 1) value xs) (Climbs k value)
    (λ e. (omega arith, ltb-true value x e, steps_climb (k + 1) x xs))
    (λ e. climbs_lower (k + 1) value k value (steps_from (k + 1) value xs) (omega arith) (omega arith) (steps_climb (k + 1) value xs))

steps_below : (k value : ℕ) (xs : List ℕ) → AreBelow (k + length xs) (steps_from k value xs)
steps_below k value [] = All-nil _
steps_below k value (x ∷ xs) =
    let wider : (v : ℕ) → AreBelow (k + length (x ∷ xs)) (steps_from (k + 1) v xs) =
    λ v. All-weaker (λ s. s.0 < k + 1 + length xs) (λ s. s.0 < k + length (x ∷ xs)) (λ s l. omega arith) (steps_from (k + 1) v xs) (steps_below (k + 1) v xs) in
    cond_both (nat_lt value x) ((k, x) ∷ steps_from (k + 1) x xs) (steps_from (k + 1) value xs) (AreBelow (k + length (x ∷ xs)))
    (λ e. All-cons (λ s. s.0 < k + length (x ∷ xs)) (k, x) (steps_from (k + 1) x xs) (omega arith) (wider x))
    (λ e. wider value)

pub below : (cells : List ℕ) → AreBelow (length cells) (steps_of cells)
below cells = subst (λ n. AreBelow n (steps_of cells)) (zero-add (length cells)) (steps_below 0 0 cells)

steps_limited : (k value : ℕ) (xs : List ℕ) → All (λ x. x ≤ unit) xs → All (λ step. step.1 ≤ unit) (steps_from k value xs)
steps_limited k value [] h = All-nil _
steps_limited k value (x ∷ xs) h =
    let later = All-tail (λ x. x ≤ unit) x xs h in
    cond_both (nat_lt value x) ((k, x) ∷ steps_from (k + 1) x xs) (steps_from (k + 1) value xs) (All (λ step. step.1 ≤ unit))
    (λ e. All-cons (λ (step : ℕ × ℕ). step.1 ≤ unit) (k, x) (steps_from (k + 1) x xs) (All-head (λ x. x ≤ unit) x xs h) (steps_limited (k + 1) x xs later))
    (λ e. steps_limited (k + 1) value xs later)

pub rise : (cells : List ℕ) → IsChances cells → IsSteps (steps_of cells)
rise cells h = steps_from_climbs (steps_of cells) (steps_climb 0 0 cells) (steps_limited 0 0 cells h.limited)

-- ---- the value at a place

-- with a value before the first step
abbrev value_from : ℕ → List (ℕ × ℕ) → ℕ → ℕ
value_from value steps k = fold (λ value step. if nat_le step.0 k then step.1 else value) value steps

value_before : (value above : ℕ) (steps : List (ℕ × ℕ)) (k : ℕ) → Climbs (k + 1) above steps → value_from value steps k ≡ value
value_before value above [] k h = refl
value_before value above (step ∷ steps) k h =
    rw (lt-leb step.0 k (omega (arith, h.0))) (value_before value step.1 steps k (climbs_lower (step.0 + 1) step.1 (k + 1) step.1 steps (omega (arith, h.0)) (omega arith) h.2))

value_here : (value : ℕ) (step : ℕ × ℕ) (steps : List (ℕ × ℕ)) (k : ℕ) → step.0 ≤ k → value_from value (step ∷ steps) k ≡ value_from step.1 steps k
value_here value step steps k h = ap (λ b. value_from (if b then step.1 else value) steps k) (le-leb step.0 k h)

-- cells that don't fall from a value on
abbrev Chain : ℕ → List ℕ → Type 0
Chain value [] = Unit {0}
Chain value (x ∷ xs) = (value ≤ x) × Chain x xs

chain_from : (value : ℕ) (xs : List ℕ) → ((k : ℕ) → k < length xs → value ≤ get_or xs k 0) → ((j k : ℕ) → j ≤ k → k < length xs → get_or xs j 0 ≤ get_or xs k 0) → Chain value xs
chain_from value [] low h = tt
chain_from value (x ∷ xs) low h = (low 0 (omega arith), chain_from x xs (λ k l. h 0 (suc k) (omega arith) (omega arith)) (λ j k l m. h (suc j) (suc k) (omega arith) (omega arith)))

chain : (cells : List ℕ) → IsNonDecreasing cells → Chain 0 cells
chain cells h = chain_from 0 cells (λ k l. omega arith) (λ j k l m. h j k 0 l m)

read_from : (k value : ℕ) (xs : List ℕ) (i : ℕ) → Chain value xs → i < length xs → value_from value (steps_from k value xs) (k + i) ≡ get_or xs i 0
read_from k value [] i c l = absurd (omega arith)
read_from k value (x ∷ xs) zero c l =
    let at_k : k + 0 ≡ k = omega arith in
    cond_both (nat_lt value x) ((k, x) ∷ steps_from (k + 1) x xs) (steps_from (k + 1) value xs) (λ steps. value_from value steps (k + 0) ≡ x)
    (λ e. value_here value (k, x) (steps_from (k + 1) x xs) (k + 0) (omega arith) ∙ ap (value_from x (steps_from (k + 1) x xs)) at_k ∙ value_before x x (steps_from (k + 1) x xs) k (steps_climb (k + 1) x xs))
    (λ e. let same : value ≡ x = omega (arith, ltb-false value x e, c.0) in
    ap (value_from value (steps_from (k + 1) value xs)) at_k ∙ value_before value value (steps_from (k + 1) value xs) k (steps_climb (k + 1) value xs) ∙ same)
read_from k value (x ∷ xs) (suc i) c l =
    let at_i : k + suc i ≡ k + 1 + i = omega arith in
    cond_both (nat_lt value x) ((k, x) ∷ steps_from (k + 1) x xs) (steps_from (k + 1) value xs) (λ steps. value_from value steps (k + suc i) ≡ get_or xs i 0)
    (λ e. value_here value (k, x) (steps_from (k + 1) x xs) (k + suc i) (omega arith) ∙ (ap (value_from x (steps_from (k + 1) x xs)) at_i ∙ read_from (k + 1) x xs i c.1 (omega arith)))
    (λ e. let same : value ≡ x = omega (arith, ltb-false value x e, c.0) in
    ap (value_from value (steps_from (k + 1) value xs)) at_i ∙ read_from (k + 1) value xs i (subst (λ v. Chain v xs) (sym same) c.1) (omega arith))

value_of_cell : (cells : List ℕ) (k : ℕ) → IsNonDecreasing cells → k < length cells → value_at (steps_of cells) k ≡ get_or cells k 0
value_of_cell cells k h l = ap (value_at (steps_of cells)) (sym (zero-add k)) ∙ read_from 0 0 cells k (chain cells h) l

pub read : (cells : List ℕ) → IsNonDecreasing cells → cells_by_steps (length cells) (steps_of cells) ≡ cells
read cells h = sym (fill_by_all (value_at (steps_of cells)) cells (length cells) 0 refl (λ k l. sym (value_of_cell cells k h l)))

-- ---- the other way round

map_same : (f g : ℕ → ℕ) (a n : ℕ) → ((k : ℕ) → a ≤ k → f k ≡ g k) → map f (range_with_len a n) ≡ map g (range_with_len a n)
map_same f g a zero h = refl
map_same f g a (suc n) h = ap (λ y. y ∷ map f (range_with_len (a + 1) n)) (h a (omega arith)) ∙ ap (λ ys. g a ∷ ys) (map_same f g (a + 1) n (λ k l. h k (omega arith)))

back_from : (n k value : ℕ) (steps : List (ℕ × ℕ)) → Climbs k value steps → AreBelow (k + n) steps → steps_from k value (map (value_from value steps) (range_with_len k n)) ≡ steps
back_from zero k value [] climbs under = refl
back_from zero k value (step ∷ steps) climbs under = absurd (omega (arith, climbs.0, All-head (λ s. s.0 < k + 0) step steps under))
back_from (suc n) k value [] climbs under = rw (le-ltb value value (omega arith)) (back_from n (k + 1) value [] tt (All-nil _))
back_from (suc n) k value (step ∷ steps) climbs under =
    let q : ℕ = step.0 in
    let y : ℕ = step.1 in
    let rest : List ℕ = map (value_from value (step ∷ steps)) (range_with_len (k + 1) n) in
    let under_more : AreBelow (k + 1 + n) (step ∷ steps) = All-weaker (λ s. s.0 < k + suc n) (λ s. s.0 < k + 1 + n) (λ s l. omega arith) (step ∷ steps) under in
    ⊎_elim
    (λ (later : k < q).
    let moved : Climbs (k + 1) value (step ∷ steps) = (omega arith, climbs.1, climbs.2) in
    let none : value_from value (step ∷ steps) k ≡ value = value_before value value (step ∷ steps) k moved in
    rw (none, le-ltb value value (omega arith)) (back_from n (k + 1) value (step ∷ steps) moved under_more))
    (λ (here : q ≤ k).
    let at_k : k ≡ q = omega (arith, climbs.0) in
    let moved : Climbs (k + 1) y steps = climbs_lower (q + 1) y (k + 1) y steps (omega arith) (omega arith) climbs.2 in
    let value_is : value_from value (step ∷ steps) k ≡ y = value_here value step steps k here ∙ value_before y y steps k moved in
    let same : rest ≡ map (value_from y steps) (range_with_len (k + 1) n) = map_same (value_from value (step ∷ steps)) (value_from y steps) (k + 1) n (λ i a. value_here value step steps i (omega arith)) in
    rw (value_is, lt-ltb value y climbs.1)
    (ap (λ xs. (k, y) ∷ steps_from (k + 1) y xs) same
    ∙ ap (λ ss. (k, y) ∷ ss) (back_from n (k + 1) y steps moved (All-tail (λ s. s.0 < k + 1 + n) step steps under_more))
    ∙ ap (λ i. (i, y) ∷ steps) at_k))
    (cases_lt k q)

pub read_back : (cap : ℕ) (steps : List (ℕ × ℕ)) → IsSteps steps → AreBelow cap steps → steps_of (cells_by_steps cap steps) ≡ steps
read_back cap steps h under = back_from cap 0 0 steps (climbs_from_steps steps h) (subst (λ n. AreBelow n steps) (sym (zero-add cap)) under)

-- ---- whole lists

-- after the last step
value_after : (value : ℕ) (steps : List (ℕ × ℕ)) (k : ℕ) → All (λ step. step.0 ≤ k) steps → value_from value steps k ≡ (get_or steps (length steps - 1) (0, value)).1
value_after value [] k h = refl
value_after value (step ∷ []) k h = value_here value step [] k (All-head (λ s. s.0 ≤ k) step [] h)
value_after value (step ∷ next ∷ steps) k h =
    let rest : List (ℕ × ℕ) = next ∷ steps in
    let e : suc (length rest - 1) ≡ length (step ∷ rest) - 1 = omega arith in
    value_here value step rest k (All-head (λ s. s.0 ≤ k) step rest h) ∙ value_after step.1 (next ∷ steps) k (All-tail (λ s. s.0 ≤ k) step rest h)
    ∙ ap (λ (s : ℕ × ℕ). s.1) (get_or_default rest (length rest - 1) (0, step.1) (0, value) (omega arith))
    ∙ ap (λ i. (get_or (step ∷ next ∷ steps) i (0, value)).1) e

-- the last cell is the value of the last step
last_step : (cells : List ℕ) → IsNonDecreasing cells → last cells ≡ last_value (steps_of cells)
last_step [] h = refl
last_step (x ∷ xs) h =
    let cells : List ℕ = x ∷ xs in
    let n : ℕ = length cells in
    sym (value_of_cell cells (n - 1) h (omega arith))
    ∙ value_after 0 (steps_of cells) (n - 1) (All-weaker (λ s. s.0 < length cells) (λ s. s.0 ≤ n - 1) (λ s l. omega arith) (steps_of cells) (below cells))

pub whole : (cells : List ℕ) → IsNonDecreasing cells → IsWhole cells ↔ IsWholeSteps (steps_of cells)
whole cells h = (λ w. sym (last_step cells h) ∙ w, λ w. last_step cells h ∙ w)

value_least : (from value : ℕ) (steps : List (ℕ × ℕ)) (k : ℕ) → Climbs from value steps → value ≤ value_from value steps k
value_least from value [] k h = omega arith
value_least from value (step ∷ steps) k h =
    cond_both (nat_le step.0 k) step.1 value (λ v. value ≤ value_from v steps k)
    (λ e. omega (arith, value_least (step.0 + 1) step.1 steps k h.2, h.1))
    (λ e. value_least (step.0 + 1) value steps k (climbs_lower (step.0 + 1) step.1 (step.0 + 1) value steps (omega arith) (omega (arith, h.1)) h.2))

value_mono : (from value : ℕ) (steps : List (ℕ × ℕ)) (j k : ℕ) → j ≤ k → Climbs from value steps → value_from value steps j ≤ value_from value steps k
value_mono from value [] j k l h = omega arith
value_mono from value (step ∷ steps) j k l h = ⊎_elim
    (λ (before : j < step.0).
    let none : value_from value (step ∷ steps) j ≡ value = value_before value value (step ∷ steps) j (omega arith, h.1, h.2) in
    omega (arith, value_least from value (step ∷ steps) k h))
    (λ (here : step.0 ≤ j).
    omega (arith, value_here value step steps j here, value_here value step steps k (omega arith), value_mono (step.0 + 1) step.1 steps j k l h.2))
    (cases_lt j step.0)

value_limited : (value : ℕ) (steps : List (ℕ × ℕ)) (k : ℕ) → value ≤ unit → All (λ s. s.1 ≤ unit) steps → value_from value steps k ≤ unit
value_limited value [] k l h = l
value_limited value (step ∷ steps) k l h =
    let later = All-tail (λ (s : ℕ × ℕ). s.1 ≤ unit) step steps h in
    cond_both (nat_le step.0 k) step.1 value (λ v. value_from v steps k ≤ unit)
    (λ e. value_limited step.1 steps k (All-head (λ (s : ℕ × ℕ). s.1 ≤ unit) step steps h) later)
    (λ e. value_limited value steps k l later)

size : (n : ℕ) (f : ℕ → ℕ) → length (cells_of n f) ≡ n
size n f = length-map-range_with_len f 0 n

cell : (n : ℕ) (f : ℕ → ℕ) (k d : ℕ) → k < n → get_or (cells_of n f) k d ≡ f k
cell n f k d l = get_or-map-range_with_len f 0 n k k d l (omega arith)

some_cells : (cap : ℕ) (steps : List (ℕ × ℕ)) → AreBelow cap steps → IsWholeSteps steps → 0 < cap
some_cells cap [] under w = absurd (omega (arith, w))
some_cells cap (step ∷ steps) under w = let l : step.0 < cap = All-head (λ (s : ℕ × ℕ). s.0 < cap) step steps under in omega arith

pub make : (cap : ℕ) (steps : List (ℕ × ℕ)) → IsSteps steps → AreBelow cap steps → IsWholeSteps steps → AreWholeChances cap (cells_by_steps cap steps)
make cap steps h under w =
    let F : ℕ → ℕ = value_at steps in
    let climbs = climbs_from_steps steps h in
    let some : 0 < cap = some_cells cap steps under w in
    let len : length (cells_of cap F) ≡ cap = size cap F in
    let end : F (cap - 1) ≡ unit = value_after 0 steps (cap - 1) (All-weaker (λ s. s.0 < cap) (λ s. s.0 ≤ cap - 1) (λ s l. omega arith) steps under) ∙ w in
    record {
      size = len;
      chances = record {
        rising = IsNonDecreasingBy-from_default (λ x. x) (cells_of cap F) 0 (λ i j l m. omega (arith, cell cap F i 0 (omega arith), cell cap F j 0 (omega arith), value_mono 0 0 steps i j l climbs));
        limited = λ k d l. omega (arith, cell cap F k d (omega arith), value_limited 0 steps k (omega arith) h.limited);
      };
      whole = ap (λ n. get_or (cells_of cap F) (n - 1) 0) len ∙ cell cap F (cap - 1) 0 (omega arith) ∙ end;
    }

-- ---- one more cell

abbrev last_or : ℕ → List ℕ → ℕ
last_or value [] = value
last_or value (x ∷ xs) = last_or x xs

last_is : (value : ℕ) (xs : List ℕ) → last_or value xs ≡ get_or xs (length xs - 1) value
last_is value [] = refl
last_is value (x ∷ []) = refl
last_is value (x ∷ y ∷ xs) =
    let e : suc (length (y ∷ xs) - 1) ≡ length (x ∷ y ∷ xs) - 1 = omega arith in
    last_is x (y ∷ xs) ∙ get_or_default (y ∷ xs) (length (y ∷ xs) - 1) x value (omega arith) ∙ ap (λ i. get_or (x ∷ y ∷ xs) i value) e

abbrev step_above : ℕ → ℕ → ℕ → List (ℕ × ℕ)
step_above k value x = if nat_lt value x then (k, x) ∷ [] else []

more_from : (k value : ℕ) (xs : List ℕ) (x : ℕ) → Chain value xs → steps_from k value (xs ++ x ∷ []) ≡ steps_from k value xs ++ step_above (k + length xs) (last_or value xs) x
more_from k value [] x c =
    let at_k : k ≡ k + 0 = omega arith in
    ap (λ i. step_above i value x) at_k
more_from k value (y ∷ ys) x c =
    let at_k : k + 1 + length ys ≡ k + length (y ∷ ys) = omega arith in
    let end : List (ℕ × ℕ) = step_above (k + length (y ∷ ys)) (last_or y ys) x in
    let whole_list : List ℕ = ys ++ x ∷ [] in
    ⊎_elim
    (λ (above : value < y).
    rw (lt-ltb value y above)
    (ap (λ ss. (k, y) ∷ ss) (more_from (k + 1) y ys x c.1 ∙ ap (λ i. steps_from (k + 1) y ys ++ step_above i (last_or y ys) x) at_k)))
    (λ (equal : y ≤ value).
    let same : value ≡ y = omega (arith, c.0) in
    rw (le-ltb value y equal)
    (more_from (k + 1) value ys x (subst (λ v. Chain v ys) (sym same) c.1) ∙ ap (λ i. steps_from (k + 1) value ys ++ step_above i (last_or value ys) x) at_k
    ∙ ap (λ v. steps_from (k + 1) value ys ++ step_above (k + length (y ∷ ys)) (last_or v ys) x) same))
    (cases_lt value y)

chain_left : (value : ℕ) (xs : List ℕ) (x : ℕ) → Chain value (xs ++ x ∷ []) → Chain value xs
chain_left value [] x h = tt
chain_left value (y ∷ ys) x h = (h.0, chain_left y ys x h.1)

pub more : (cells : List ℕ) (x : ℕ) → IsNonDecreasing (cells ++ x ∷ []) → steps_of (cells ++ x ∷ []) ≡ steps_of cells ++ (if nat_lt (last cells) x then (length cells, x) ∷ [] else [])
more cells x h =
    more_from 0 0 cells x (chain_left 0 cells x (chain (cells ++ x ∷ []) h))
    ∙ ap (λ i. steps_of cells ++ step_above i (last_or 0 cells) x) (zero-add (length cells))
    ∙ ap (λ v. steps_of cells ++ step_above (length cells) v x) (last_is 0 cells)
