-- Lists whose last cell is set, that get a value from a place on, that are lowered, and the points.
use Rattle.std.proofs.Common.{◌≡◌, ◌≢◌, ℕ, zero, suc, ◌<◌, ◌≤◌, ◌+◌, ◌-◌, ◌∙◌, sym, ap, nat_le, nat_lt, if◌then◌else◌, List, [], ◌∷◌, length, take, set, get_or, slice_set, arith, refl, subst, inl, inr, ⊎_elim}
use Rattle.std.proofs.Math.Nat.{eq-or-lt_of_le}
use Rattle.std.proofs.lemmas.List.{length-set, length-take-le, get_or-take, get_or-set_same, get_or-set_other, set-get_or, take-take, take_more_set}
use Rattle.std.proofs.lemmas.List.FromFn.{fill_by_all}
use Rattle.std.proofs.lemmas.Bool.{cases_lt, le-leb, lt-leb, lt-ltb, le-ltb}
use Rattle.prta_mass.specs.Unit.{unit}
use Rattle.prta_mass.specs.Chances.{at, before, point}
use Rattle.prta_dist.specs.Curve.{lower, raise}
use Rattle.prta_dist.proofs.Cells.{length-cells_of, cell-cells_of}
use Rattle.prta_stair.specs.Steps.{Steps, value_at, cells_by_steps, place, height, AreRising, AreSteps}
use Rattle.prta_stair.specs.Reading.{level, IsReached, AreBelow}
use Rattle.prta_stair.specs.Setting.{IsPut}
use Rattle.prta_stair.proofs.Values.{value_take, value_end, before_is}
use Rattle.prta_stair.proofs.Lists.{same_cells, at_steps, last_steps}
use Rattle.prta_stair.proofs.Putting.{no_steps, steps_more, steps_take, put_more, room_left}

-- ---- the last value

-- the value of an earlier step is that of the first ones alone
pub level_front : (steps : Steps) (n m : ℕ) → m ≤ n → level (take n steps) m ≡ level steps m
level_front steps n zero le = refl
level_front steps n (suc m) le = ap (λ (s : ℕ × ℕ). s.1) (get_or-take n steps m (0, 0) (omega arith))

pub level_end : (steps : Steps) (n : ℕ) → n ≤ length steps → level (take n steps) (length (take n steps)) ≡ level steps n
level_end steps n le = ap (level (take n steps)) (length-take-le n steps le) ∙ level_front steps n n (omega arith)

pub height_under : (steps : Steps) (i n : ℕ) → AreRising steps → i < n → n ≤ length steps → height steps i ≤ level steps n
height_under steps i zero rise lt le = absurd (omega arith)
height_under steps i (suc n) rise lt le = elim (eq-or-lt_of_le (let e : i ≤ n = omega arith in e)) [
  | inl same ↦ omega (arith, ap (height steps) same)
  | inr less ↦ omega (arith, (rise i n less (omega arith)).1)
]

-- where the last value isn't the unit no value is
pub heights_low : (cap count : ℕ) (to : Steps) → count ≤ length to → AreSteps cap (take count to) → level to count ≢ unit → (i : ℕ) → i < count → height (take count to) i < unit
heights_low cap count to le are other i lt =
    let size : length (take count to) ≡ count = length-take-le count to le in
    let under : height (take count to) i ≤ level (take count to) count = height_under (take count to) i count are.rising lt (omega (arith, size)) in
    let same : level (take count to) count ≡ level to count = level_front to count count (omega arith) in
    omega (arith, under, same, last_low (take count to) count (omega (arith, size)) are, other)
  where
    last_low : (steps : Steps) (n : ℕ) → n ≤ length steps → AreSteps cap steps → level steps n ≤ unit
    last_low steps zero le are = omega arith
    last_low steps (suc n) le are = are.limited n (omega arith)

-- ---- the last cell set to the unit

pub settled_same : (cap : ℕ) (steps : Steps) → 0 < cap → AreSteps cap steps → level steps (length steps) ≡ unit → cells_by_steps cap steps ≡ slice_set (cells_by_steps cap steps) (length (cells_by_steps cap steps) - 1) unit
settled_same cap steps some are e =
    let cells : List ℕ = cells_by_steps cap steps in
    sym (ap (slice_set cells (length cells - 1)) (sym (last_steps cap steps some are ∙ e)) ∙ set-get_or cells (length cells - 1) 0)

pub settled_put : (cap : ℕ) (old new : Steps) → 0 < cap → ((k : ℕ) → value_at new k ≡ (if nat_le (cap - 1) k then unit else value_at old k)) → cells_by_steps cap new ≡ slice_set (cells_by_steps cap old) (length (cells_by_steps cap old) - 1) unit
settled_put cap old new some values =
    let cells : List ℕ = cells_by_steps cap old in
    let size : length cells ≡ cap = length-cells_of cap (value_at old) in
    sym (fill_by_all (value_at new) (set cells (length cells - 1) unit) cap 0 (length-set cells (length cells - 1) unit ∙ size) (λ k h. ⊎_elim
    (λ (l : k < cap - 1).
    get_or-set_other cells (length cells - 1) k unit 0 (omega (arith, size))
    ∙ cell-cells_of cap (value_at old) k 0 h
    ∙ sym (values k ∙ ap (λ b. if b then unit else value_at old k) (lt-leb (cap - 1) k l)))
    (λ (l : cap - 1 ≤ k).
    ap (λ i. get_or (set cells (length cells - 1) unit) i 0) (let e : k ≡ length cells - 1 = omega (arith, size) in e)
    ∙ get_or-set_same cells (length cells - 1) unit 0 (omega (arith, size))
    ∙ sym (values k ∙ ap (λ b. if b then unit else value_at old k) (le-leb (cap - 1) k l)))
    (cases_lt k (cap - 1))))

-- ---- a value from a place on

raised_cells : (cap p v : ℕ) (old new : Steps) → 0 < cap → AreSteps cap old → ((k : ℕ) → k < p → value_at new k ≡ value_at old k) → ((k : ℕ) → p ≤ k → value_at new k ≡ v) → cells_by_steps cap new ≡ raise p v (cells_by_steps cap old)
raised_cells cap p v old new some are early late =
    let cells : List ℕ = cells_by_steps cap old in
    same_cells cap (length cells) (value_at new) (λ k. if nat_lt k p then at cells k else v) (sym (length-cells_of cap (value_at old))) (λ k h. ⊎_elim
    (λ (l : k < p). early k l ∙ sym (at_steps cap old k some are) ∙ sym (ap (λ b. if b then at cells k else v) (lt-ltb k p l)))
    (λ (l : p ≤ k). late k l ∙ sym (ap (λ b. if b then at cells k else v) (le-ltb k p l)))
    (cases_lt k p))

module _ (cap p v kept count : ℕ) (steps : Steps) (room : p < cap) (le : count ≤ length steps) (are : AreSteps cap (take count steps)) (reached : IsReached (take count steps) 1 p kept) (next : kept < length (take count steps) → p < place (take count steps) kept + 1) where
  kept_few : kept ≤ count
  kept_few = omega (arith, reached.within, length-take-le count steps le)

  front : take kept steps ≡ take kept (take count steps)
  front = sym (take-take kept count steps kept_few)

  size : length (take kept steps) ≡ kept
  size = length-take-le kept steps (omega (arith, kept_few, le))

  pub kept_steps : AreSteps cap (take kept steps)
  kept_steps = subst (AreSteps cap) (sym front) (steps_take cap kept (take count steps) reached.within are)

  front_place : (i : ℕ) → i < kept → place (take kept steps) i < p
  front_place i l = omega (arith, ap (λ (ys : Steps). place ys i) front, ap (λ (s : ℕ × ℕ). s.0) (get_or-take kept (take count steps) i (0, 0) l), reached.passed i l)

  pub kept_room : kept ≤ p
  kept_room = room_left cap kept p (take kept steps) kept_steps size front_place

  early : (k : ℕ) → k < p → value_at (take kept steps) k ≡ value_at (take count steps) k
  early k l = ap (λ (ys : Steps). value_at ys k) front ∙ sym (value_take (take count steps) kept k are.rising reached.within (λ h. omega (arith, next h)))

  level_is : level (take kept steps) (length (take kept steps)) ≡ before (value_at (take count steps)) p 1
  level_is =
      level_end steps kept (omega (arith, kept_few, le))
      ∙ sym (level_front steps count kept kept_few)
      ∙ sym (before_is (take count steps) 1 p kept are.rising reached next)

  late : (k : ℕ) → p ≤ k → value_at (take kept steps) k ≡ before (value_at (take count steps)) p 1
  late k l = value_end (take kept steps) k kept_steps.rising (λ i h. omega (arith, front_place i (omega (arith, size)))) ∙ level_is

  pub raised_same : before (value_at (take count steps)) p 1 ≡ v → cells_by_steps cap (take kept steps) ≡ raise p v (cells_by_steps cap (take count steps))
  raised_same e = raised_cells cap p v (take count steps) (take kept steps) (omega arith) are early (λ k l. late k l ∙ e)

  pub raised_put : kept < length steps → v ≤ unit → before (value_at (take count steps)) p 1 < v → IsPut cap p v (take kept steps) (take (kept + 1) (slice_set steps kept (p, v)))
  raised_put space low up =
      subst (IsPut cap p v (take kept steps)) (sym (take_more_set steps kept (p, v) space))
      (put_more cap (take kept steps) p v kept_steps room low (omega arith) (λ i l.
      (front_place i (omega (arith, size)), omega (arith, height_under (take kept steps) i (length (take kept steps)) kept_steps.rising l (omega arith), level_is, up))))

  pub raised_more : (new : Steps) → IsPut cap p v (take kept steps) new → cells_by_steps cap new ≡ raise p v (cells_by_steps cap (take count steps))
  raised_more new put = raised_cells cap p v (take count steps) new (omega arith) are
      (λ k l. put.values k ∙ ap (λ b. if b then v else value_at (take kept steps) k) (lt-leb p k l) ∙ early k l)
      (λ k l. put.values k ∙ ap (λ b. if b then v else value_at (take kept steps) k) (le-leb p k l))

-- ---- lowered lists

lowered_cells : (cap s top : ℕ) (old new : Steps) → 0 < cap → AreSteps cap old → ((k : ℕ) → k < top → value_at new k ≡ value_at old k - s) → ((k : ℕ) → top ≤ k → value_at new k ≡ unit) → cells_by_steps cap new ≡ lower s top (cells_by_steps cap old)
lowered_cells cap s top old new some are early late =
    let cells : List ℕ = cells_by_steps cap old in
    same_cells cap (length cells) (value_at new) (λ k. if nat_lt k top then at cells k - s else unit) (sym (length-cells_of cap (value_at old))) (λ k h. ⊎_elim
    (λ (l : k < top). early k l ∙ ap (λ x. x - s) (sym (at_steps cap old k some are)) ∙ sym (ap (λ b. if b then at cells k - s else unit) (lt-ltb k top l)))
    (λ (l : top ≤ k). late k l ∙ sym (ap (λ b. if b then at cells k - s else unit) (le-ltb k top l)))
    (cases_lt k top))

pub lowered_same : (cap s top : ℕ) (old new : Steps) → 0 < cap → AreSteps cap old → AreSteps cap new → AreBelow top new → ((k : ℕ) → k < top → value_at new k ≡ value_at old k - s) → level new (length new) ≡ unit → cells_by_steps cap new ≡ lower s top (cells_by_steps cap old)
lowered_same cap s top old new some are new_are under early e = lowered_cells cap s top old new some are early (λ k l. value_end new k new_are.rising (λ i h. omega (arith, under i h)) ∙ e)

pub lowered_put : (cap s top : ℕ) (old mid new : Steps) → 0 < cap → AreSteps cap old → ((k : ℕ) → k < top → value_at mid k ≡ value_at old k - s) → IsPut cap top unit mid new → cells_by_steps cap new ≡ lower s top (cells_by_steps cap old)
lowered_put cap s top old mid new some are early put = lowered_cells cap s top old new some are
    (λ k l. put.values k ∙ ap (λ b. if b then unit else value_at mid k) (lt-leb top k l) ∙ early k l)
    (λ k l. put.values k ∙ ap (λ b. if b then unit else value_at mid k) (le-leb top k l))

-- ---- points

pub one_step : (cap b : ℕ) → b < cap → AreSteps cap ((b, unit) ∷ [])
one_step cap b room = steps_more cap [] b unit (no_steps cap) room (omega arith) (omega arith) (λ i h. absurd (omega (arith, h)))

pub point_is : (cap b : ℕ) → cells_by_steps cap ((b, unit) ∷ []) ≡ point cap b
point_is cap b = same_cells cap cap (value_at ((b, unit) ∷ [])) (λ k. if nat_lt k b then 0 else unit) refl (λ k h. ⊎_elim
    (λ (l : k < b). ap (λ c. if c then unit else 0) (lt-leb b k l) ∙ sym (ap (λ c. if c then 0 else unit) (lt-ltb k b l)))
    (λ (l : b ≤ k). ap (λ c. if c then unit else 0) (le-leb b k l) ∙ sym (ap (λ c. if c then 0 else unit) (le-ltb k b l)))
    (cases_lt k b))
