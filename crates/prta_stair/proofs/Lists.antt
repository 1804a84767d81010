-- Steps and the list of cells that they make.
use Rattle.std.proofs.Common.{◌≡◌, ℕ, zero, suc, ◌<◌, ◌≤◌, ◌+◌, ◌-◌, ◌∙◌, ◌⊎◌, sym, ap, Bool, true, false, nat_le, nat_lt, if◌then◌else◌, List, ◌∷◌, map, fold, length, drop, slice_index_or, arith, refl, inl, inr, ⊎_elim}
use Rattle.std.specs.List.{range_with_len, filter}
use Rattle.std.proofs.lemmas.List.{drop_more, drop_all, nil_from_length}
use Rattle.std.proofs.Math.Nat.{eq-or-lt_of_le}
use Rattle.std.proofs.lemmas.List.FromFn.{fill_by_all}
use Rattle.std.proofs.lemmas.Bool.{cases_lt, le-leb, lt-leb, lt-ltb, le-ltb, ltb-false, cases_Bool}
use Rattle.prta_mass.specs.Chances.{at, last, before, cells_of, IsChances}
use Rattle.prta_dist.proofs.Cells.{at_cell, at_past, at_rises, length-cells_of, at-cells_of, last-cells_of, cell-cells_of, chances_of}
use Rattle.prta_dist.proofs.Sums.{before_near, before_far}
use Rattle.prta_stair.specs.Steps.{Steps, steps_of, value_at, cells_by_steps, place, height, AreRising, AreSteps}
use Rattle.prta_stair.specs.Reading.{level}
use Rattle.prta_stair.proofs.Values.{value_is, before_is, value_here, value_mono, value_limited, value_end}

-- equal values make equal cells
pub same_cells : (n m : ℕ) (F G : ℕ → ℕ) → n ≡ m → ((k : ℕ) → k < n → F k ≡ G k) → cells_of n F ≡ cells_of m G
same_cells n m F G e same = fill_by_all G (cells_of n F) m 0 (length-cells_of n F ∙ e) (λ k h. cell-cells_of n F k 0 (omega (arith, e, h)) ∙ same k (omega (arith, e, h)))

-- the value of the cells at every place, also past the end, is that of the steps
pub at_steps : (cap : ℕ) (steps : Steps) (k : ℕ) → 0 < cap → AreSteps cap steps → at (cells_by_steps cap steps) k ≡ value_at steps k
at_steps cap steps k some are = ⊎_elim
    (λ (l : k < cap). at-cells_of cap (value_at steps) k l)
    (λ (l : cap ≤ k).
    at_past (cells_by_steps cap steps) k (omega (arith, length-cells_of cap (value_at steps)))
    ∙ last-cells_of cap (value_at steps) some
    ∙ value_end steps (cap - 1) are.rising (λ i h. omega (arith, are.below i h))
    ∙ sym (value_end steps k are.rising (λ i h. omega (arith, are.below i h))))
    (cases_lt k cap)

pub at_is : (cap : ℕ) (steps : Steps) → 0 < cap → AreSteps cap steps → at (cells_by_steps cap steps) ≡ value_at steps
at_is cap steps some are = λ i k. at_steps cap steps k some are i

pub last_steps : (cap : ℕ) (steps : Steps) → 0 < cap → AreSteps cap steps → last (cells_by_steps cap steps) ≡ level steps (length steps)
last_steps cap steps some are = last-cells_of cap (value_at steps) some ∙ value_end steps (cap - 1) are.rising (λ i h. omega (arith, are.below i h))

pub chances : (cap : ℕ) (steps : Steps) → AreSteps cap steps → IsChances (cells_by_steps cap steps)
chances cap steps are = chances_of cap (value_at steps) (λ i k le h. value_mono steps i k are.rising le) (λ k h. value_limited cap steps k are)

-- ---- the steps of a list

-- a function rises at k
abbrev pub rises : (ℕ → ℕ) → ℕ → Bool
rises F k = nat_lt (before F k 1) (F k)

-- its steps at n places from a on
abbrev pub steps_from : (ℕ → ℕ) → ℕ → ℕ → Steps
steps_from F a n = map (λ k. (k, F k)) (filter (rises F) (range_with_len a n))

from_rises : (F : ℕ → ℕ) (a n : ℕ) → rises F a ≡ true → steps_from F a (suc n) ≡ (a, F a) ∷ steps_from F (a + 1) n
from_rises F a n e = rw e refl

from_still : (F : ℕ → ℕ) (a n : ℕ) → rises F a ≡ false → steps_from F a (suc n) ≡ steps_from F (a + 1) n
from_still F a n e = rw e refl

-- ---- the steps of the list that has given steps

below_step : (steps : Steps) (i : ℕ) → AreRising steps → i < length steps → 0 < height steps i → level steps i < height steps i
below_step steps zero rise lt some = some
below_step steps (suc i) rise lt some = (rise i (suc i) (omega arith) lt).1

-- the steps from place k on, of which i stand before it
steps_again : (cap : ℕ) (steps : Steps) (n k i : ℕ) → AreSteps cap steps → k + n ≡ cap → i ≤ length steps → ((m : ℕ) → m < i → place steps m < k) → (i < length steps → k ≤ place steps i) → steps_from (value_at steps) k n ≡ drop i steps
steps_again cap steps zero k i are e le passed next =
    let none : length steps ≤ i = ⊎_elim (λ (l : i < length steps). absurd (omega (arith, next l, are.below i l))) (λ (l : length steps ≤ i). l) (cases_lt i (length steps)) in
    sym (drop_all i steps none)
steps_again cap steps (suc n) k i are e le passed next =
    let F : ℕ → ℕ = value_at steps in
    let was : (i < length steps → k < place steps i + 1) → before F k 1 ≡ level steps i =
    λ l. before_is steps 1 k i are.rising (record { within = le; passed = λ m h. omega (arith, passed m h) }) l in
    ⊎_elim
    (λ (here : (i < length steps) × (place steps i ≤ k)).
    let same : k ≡ place steps i = omega (arith, next here.0, here.1) in
    let value : F k ≡ height steps i = ap F same ∙ value_here steps i are.rising here.0 in
    let up : level steps i < height steps i = below_step steps i are.rising here.0 (are.some i here.0) in
    let more : rises F k ≡ true = lt-ltb (before F k 1) (F k) (omega (arith, was (λ l. omega arith), value, up)) in
    from_rises F k n more
    ∙ ap (λ (p : ℕ). (p, F k) ∷ steps_from F (k + 1) n) same
    ∙ ap (λ (v : ℕ). (place steps i, v) ∷ steps_from F (k + 1) n) value
    ∙ ap (λ (ss : Steps). slice_index_or steps i (0, 0) ∷ ss) (steps_again cap steps n (k + 1) (i + 1) are (omega arith) (omega (arith, here.0))
    (λ m h. elim (eq-or-lt_of_le (let l : m ≤ i = omega (arith, h) in l)) [ inl same_step ↦ omega (arith, ap (place steps) same_step, same) | inr less ↦ omega (arith, passed m less) ])
    (λ h. omega (arith, (are.rising i (i + 1) (omega arith) h).0, same)))
    ∙ sym (drop_more steps i (0, 0) here.0))
    (λ (later : i < length steps → k < place steps i).
    let value : F k ≡ level steps i = value_is steps i k are.rising le (λ m h. omega (arith, passed m h)) later in
    let still : rises F k ≡ false = le-ltb (before F k 1) (F k) (omega (arith, was (λ l. omega (arith, later l)), value)) in
    from_still F k n still
    ∙ steps_again cap steps n (k + 1) i are (omega arith) le (λ m h. omega (arith, passed m h)) (λ h. omega (arith, later h)))
    (here_or_later steps i k)
  where
    here_or_later : (steps : Steps) (i k : ℕ) → ((i < length steps) × (place steps i ≤ k)) ⊎ (i < length steps → k < place steps i)
    here_or_later steps i k = ⊎_elim
        (λ (l : k < place steps i). inr (λ _. l))
        (λ (l : place steps i ≤ k). ⊎_elim (λ (m : i < length steps). inl (m, l)) (λ (m : length steps ≤ i). inr (λ h. absurd (omega arith))) (cases_lt i (length steps)))
        (cases_lt k (place steps i))

pub read_back : (cap : ℕ) (steps : Steps) → AreSteps cap steps → steps_of (cells_by_steps cap steps) ≡ steps
read_back zero steps are = ⊎_elim
    (λ (l : 0 < length steps). absurd (omega (arith, are.below 0 l)))
    (λ (l : length steps ≤ 0). sym (nil_from_length steps (omega arith)))
    (cases_lt 0 (length steps))
read_back (suc cap) steps are =
    ap (steps_from (at (cells_by_steps (suc cap) steps)) 0) (length-cells_of (suc cap) (value_at steps))
    ∙ ap (λ (F : ℕ → ℕ). steps_from F 0 (suc cap)) (at_is (suc cap) steps (omega arith) are)
    ∙ steps_again (suc cap) steps (suc cap) 0 0 are (omega arith) (omega arith) (λ m h. absurd (omega arith)) (λ h. omega arith)

-- ---- the list that has the steps of a list

abbrev value_from : ℕ → Steps → ℕ → ℕ
value_from value steps k = fold (λ value step. if nat_le step.0 k then step.1 else value) value steps

from_here : (v : ℕ) (x : ℕ × ℕ) (xs : Steps) (k : ℕ) → x.0 ≤ k → value_from v (x ∷ xs) k ≡ value_from x.1 xs k
from_here v x xs k h = ap (λ (b : Bool). value_from (if b then x.1 else v) xs k) (le-leb x.0 k h)

from_before : (v : ℕ) (x : ℕ × ℕ) (xs : Steps) (k : ℕ) → k < x.0 → value_from v (x ∷ xs) k ≡ value_from v xs k
from_before v x xs k h = ap (λ (b : Bool). value_from (if b then x.1 else v) xs k) (lt-leb x.0 k h)

-- before the first place
none_yet : (F : ℕ → ℕ) (v a n k : ℕ) → k < a → value_from v (steps_from F a n) k ≡ v
none_yet F v a zero k l = refl
none_yet F v a (suc n) k l = elim (cases_Bool (rises F a)) [
  | inl up ↦ ap (λ (ss : Steps). value_from v ss k) (from_rises F a n up) ∙ from_before v (a, F a) (steps_from F (a + 1) n) k l ∙ none_yet F v (a + 1) n k (omega arith)
  | inr still ↦ ap (λ (ss : Steps). value_from v ss k) (from_still F a n still) ∙ none_yet F v (a + 1) n k (omega arith)
]

pub next_before : (F : ℕ → ℕ) (a : ℕ) → F a ≡ before F (a + 1) 1
next_before F a = ap F (let e : a ≡ a + 1 - 1 = omega arith in e) ∙ sym (before_near F (a + 1) 1 (omega arith))

pub before_low : (F : ℕ → ℕ) (a : ℕ) → ((i k : ℕ) → i ≤ k → F i ≤ F k) → before F a 1 ≤ F a
before_low F a up = ⊎_elim
    (λ (far : a < 1). omega (arith, before_far F a 1 far))
    (λ (near : 1 ≤ a). omega (arith, before_near F a 1 near, up (a - 1) a (omega arith)))
    (cases_lt a 1)

-- at each of the places
values_again : (F : ℕ → ℕ) (v a n k : ℕ) → ((i k : ℕ) → i ≤ k → F i ≤ F k) → v ≡ before F a 1 → a ≤ k → k < a + n → value_from v (steps_from F a n) k ≡ F k
values_again F v a zero k up e low high = absurd (omega arith)
values_again F v a (suc n) k up e low high =
    let first : value_from v (steps_from F a (suc n)) k ≡ value_from (F a) (steps_from F (a + 1) n) k =
    elim (cases_Bool (rises F a)) [
      | inl above ↦ ap (λ (ss : Steps). value_from v ss k) (from_rises F a n above) ∙ from_here v (a, F a) (steps_from F (a + 1) n) k low
      | inr still ↦ ap (λ (ss : Steps). value_from v ss k) (from_still F a n still)
          ∙ ap (λ (w : ℕ). value_from w (steps_from F (a + 1) n) k) (let same : v ≡ F a = omega (arith, e, before_low F a up, ltb-false (before F a 1) (F a) still) in same)
    ] in
    first ∙ ⊎_elim
    (λ (here : k < a + 1). none_yet F (F a) (a + 1) n k here ∙ ap F (let same : a ≡ k = omega arith in same))
    (λ (later : a + 1 ≤ k). values_again F (F a) (a + 1) n k up (next_before F a) later (omega arith))
    (cases_lt k (a + 1))

pub read : (cells : List ℕ) → IsChances cells → cells_by_steps (length cells) (steps_of cells) ≡ cells
read cells is =
    sym (fill_by_all (value_at (steps_of cells)) cells (length cells) 0 refl
    (λ k h. at_cell cells k 0 h ∙ sym (values_again (at cells) 0 0 (length cells) k (λ i j le. at_rises cells i j is.rising le) refl (omega arith) (omega arith))))
