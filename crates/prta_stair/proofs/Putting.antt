-- A step behind others, or in place of the last one.
use Rattle.std.proofs.Common.{◌≡◌, ◌≢◌, ℕ, ◌<◌, ◌≤◌, ◌⊎◌, ◌+◌, ◌-◌, ◌∙◌, sym, ap, [], ◌∷◌, ◌++◌, length, slice_set, slice_index_or, take, arith, refl, subst, inl, inr, if◌then◌else◌, ⊎_elim}
use Rattle.std.proofs.Math.Nat.{eq-or-lt_of_le}
use Rattle.std.proofs.Math.Seq.{get_or-append_seam}
use Rattle.std.proofs.lemmas.List.{get_or_append_left, get_or-take, length-append, length-take-le, take_at, take_more, take_more_set}
use Rattle.std.proofs.lemmas.Bool.{cases_lt, le-leb, lt-leb}
use Rattle.prta_mass.specs.Unit.{unit}
use Rattle.prta_stair.specs.Steps.{Steps, value_at, place, height, AreSteps}
use Rattle.prta_stair.specs.Setting.{IsPut}
use Rattle.prta_stair.proofs.Values.{value_more, value_more_here, value_more_before, place_least}

last_or : (i n : ℕ) → i < n + 1 → (i ≡ n) ⊎ (i < n)
last_or i n lt = eq-or-lt_of_le (let e : i ≤ n = omega (arith, lt) in e)

-- ---- the steps of a list with one more, and without the last

module _ (ys : Steps) (x : ℕ × ℕ) where
  pub size_more : length (ys ++ x ∷ []) ≡ length ys + 1
  size_more = length-append ys (x ∷ [])

  old : (i : ℕ) → i < length ys → slice_index_or (ys ++ x ∷ []) i (0, 0) ≡ slice_index_or ys i (0, 0)
  old i l = get_or_append_left ys (x ∷ []) (0, 0) i l

  pub old_place : (i : ℕ) → i < length ys → place (ys ++ x ∷ []) i ≡ place ys i
  old_place i l = ap (λ (s : ℕ × ℕ). s.0) (old i l)

  pub old_height : (i : ℕ) → i < length ys → height (ys ++ x ∷ []) i ≡ height ys i
  old_height i l = ap (λ (s : ℕ × ℕ). s.1) (old i l)

  end : slice_index_or (ys ++ x ∷ []) (length ys) (0, 0) ≡ x
  end = get_or-append_seam ys x [] (0, 0)

  pub end_place : (i : ℕ) → i ≡ length ys → place (ys ++ x ∷ []) i ≡ x.0
  end_place i e = ap (place (ys ++ x ∷ [])) e ∙ ap (λ (s : ℕ × ℕ). s.0) end

  pub end_height : (i : ℕ) → i ≡ length ys → height (ys ++ x ∷ []) i ≡ x.1
  end_height i e = ap (height (ys ++ x ∷ [])) e ∙ ap (λ (s : ℕ × ℕ). s.1) end

pub no_steps : (cap : ℕ) → AreSteps cap []
no_steps cap = record {
  rising = λ i j l h. absurd (omega (arith, h));
  some = λ i h. absurd (omega (arith, h));
  limited = λ i h. absurd (omega (arith, h));
  below = λ i h. absurd (omega (arith, h));
}

pub steps_more : (cap : ℕ) (ys : Steps) (at value : ℕ) → AreSteps cap ys → at < cap → value ≤ unit → 0 < value → ((i : ℕ) → i < length ys → (place ys i < at) × (height ys i < value)) → AreSteps cap (ys ++ (at, value) ∷ [])
steps_more cap ys at value are room low some before =
    let x : ℕ × ℕ = (at, value) in
    let size : length (ys ++ x ∷ []) ≡ length ys + 1 = size_more ys x in
    record {
      rising = λ i j less within. elim (last_or j (length ys) (omega (arith, within, size))) [
        | inl e ↦ let first : i < length ys = omega (arith, less, e) in
            (omega (arith, old_place ys x i first, end_place ys x j e, (before i first).0), omega (arith, old_height ys x i first, end_height ys x j e, (before i first).1))
        | inr l ↦ let first : i < length ys = omega (arith, less, l) in
            (omega (arith, old_place ys x i first, old_place ys x j l, (are.rising i j less l).0), omega (arith, old_height ys x i first, old_height ys x j l, (are.rising i j less l).1))
      ];
      some = λ i within. elim (last_or i (length ys) (omega (arith, within, size))) [
        | inl e ↦ omega (arith, end_height ys x i e, some)
        | inr l ↦ omega (arith, old_height ys x i l, are.some i l)
      ];
      limited = λ i within. elim (last_or i (length ys) (omega (arith, within, size))) [
        | inl e ↦ omega (arith, end_height ys x i e, low)
        | inr l ↦ omega (arith, old_height ys x i l, are.limited i l)
      ];
      below = λ i within. elim (last_or i (length ys) (omega (arith, within, size))) [
        | inl e ↦ omega (arith, end_place ys x i e, room)
        | inr l ↦ omega (arith, old_place ys x i l, are.below i l)
      ];
    }

-- a step behind others
pub put_more : (cap : ℕ) (ys : Steps) (at value : ℕ) → AreSteps cap ys → at < cap → value ≤ unit → 0 < value → ((i : ℕ) → i < length ys → (place ys i < at) × (height ys i < value)) → IsPut cap at value ys (ys ++ (at, value) ∷ [])
put_more cap ys at value are room low some before =
    let x : ℕ × ℕ = (at, value) in
    record {
      values = value_more ys x;
      steps = steps_more cap ys at value are room low some before;
      most = λ i within. elim (last_or i (length ys) (omega (arith, within, size_more ys x))) [
        | inl e ↦ (omega (arith, end_place ys x i e), omega (arith, end_height ys x i e))
        | inr l ↦ (omega (arith, old_place ys x i l, (before i l).0), omega (arith, old_height ys x i l, (before i l).1))
      ];
    }

-- the first steps of some are steps
pub steps_take : (cap n : ℕ) (steps : Steps) → n ≤ length steps → AreSteps cap steps → AreSteps cap (take n steps)
steps_take cap n steps le are =
    let size : length (take n steps) ≡ n = length-take-le n steps le in
    let place_is : (i : ℕ) → i < n → place (take n steps) i ≡ place steps i = λ i l. ap (λ (s : ℕ × ℕ). s.0) (get_or-take n steps i (0, 0) l) in
    let height_is : (i : ℕ) → i < n → height (take n steps) i ≡ height steps i = λ i l. ap (λ (s : ℕ × ℕ). s.1) (get_or-take n steps i (0, 0) l) in
    record {
      rising = λ i j less within. (
        omega (arith, place_is i (omega (arith, size)), place_is j (omega (arith, size)), (are.rising i j less (omega (arith, size))).0),
        omega (arith, height_is i (omega (arith, size)), height_is j (omega (arith, size)), (are.rising i j less (omega (arith, size))).1),
      );
      some = λ i within. omega (arith, height_is i (omega (arith, size)), are.some i (omega (arith, size)));
      limited = λ i within. omega (arith, height_is i (omega (arith, size)), are.limited i (omega (arith, size)));
      below = λ i within. omega (arith, place_is i (omega (arith, size)), are.below i (omega (arith, size)));
    }

-- a step in place of the last one, which stands at the same place
put_last : (cap : ℕ) (ys : Steps) (at before value : ℕ) → AreSteps cap ys → ((i : ℕ) → i < length ys → (place ys i < at) × (height ys i < before)) → at < cap → value ≤ unit → before < value → IsPut cap at value (ys ++ (at, before) ∷ []) (ys ++ (at, value) ∷ [])
put_last cap ys at before value are first room low more =
    let x : ℕ × ℕ = (at, before) in
    let fresh : IsPut cap at value ys (ys ++ (at, value) ∷ []) = put_more cap ys at value are room low (omega (arith, more)) (λ i l. ((first i l).0, omega (arith, (first i l).1, more))) in
    record {
      values = λ k. ⊎_elim
          (λ (far : k < at). value_more_before ys (at, value) k far ∙ sym (value_more_before ys x k far) ∙ sym (ap (λ b. if b then value else value_at (ys ++ x ∷ []) k) (lt-leb at k far)))
          (λ (near : at ≤ k). value_more_here ys (at, value) k near ∙ sym (ap (λ b. if b then value else value_at (ys ++ x ∷ []) k) (le-leb at k near)))
          (cases_lt k at);
      steps = fresh.steps;
      most = fresh.most;
    }

-- ---- in the array

-- all steps before a place below the cap leave room
pub room_left : (cap count at : ℕ) (ys : Steps) → AreSteps cap ys → length ys ≡ count → ((i : ℕ) → i < count → place ys i < at) → count ≤ at
room_left cap count at ys are size before = ⊎_elim
    (λ (l : 0 < count). omega (arith, place_least ys (count - 1) are.rising (omega (arith, size, l)), before (count - 1) (omega (arith, l))))
    (λ (l : count ≤ 0). omega arith)
    (cases_lt 0 count)

module _ (cap : ℕ) (to : Steps) (count at value : ℕ) (le : count ≤ length to) (are : AreSteps cap (take count to)) (room : at < cap) (low : value ≤ unit) where
  size_front : length (take count to) ≡ count
  size_front = length-take-le count to le

  pub put_behind : count < length to → 0 < value → ((i : ℕ) → i < count → (place (take count to) i < at) × (height (take count to) i < value)) → IsPut cap at value (take count to) (take (count + 1) (slice_set to count (at, value)))
  put_behind space some before =
      subst (IsPut cap at value (take count to)) (sym (take_more_set to count (at, value) space))
      (put_more cap (take count to) at value are room low some (λ i l. before i (omega (arith, l, size_front))))

  front_place : (i : ℕ) → i < count → place (take count to) i ≡ place to i
  front_place i l = ap (λ (s : ℕ × ℕ). s.0) (get_or-take count to i (0, 0) l)

  front_height : (i : ℕ) → i < count → height (take count to) i ≡ height to i
  front_height i l = ap (λ (s : ℕ × ℕ). s.1) (get_or-take count to i (0, 0) l)

  -- no step stands at or behind the place, where the last one doesn't
  pub strictly : ((i : ℕ) → i < count → (place (take count to) i ≤ at) × (height (take count to) i < value)) → (0 < count → place to (count - 1) ≢ at) → (i : ℕ) → i < count → (place (take count to) i < at) × (height (take count to) i < value)
  strictly before other i lt =
      let n : ℕ = count - 1 in
      let h : place (take count to) n ≡ place to n = front_place n (omega (arith, lt)) in
      let ne : place to n ≢ at = other (omega (arith, lt)) in
      let le_last : place (take count to) n ≤ at = (before n (omega (arith, lt))).0 in
      let last : place (take count to) n < at = omega (arith, h, le_last, ne) in (
        elim (last_or i n (omega (arith, lt))) [
          | inl e ↦ subst (λ m. place (take count to) m < at) (sym e) last
          | inr l ↦ omega (arith, (are.rising i n l (omega (arith, size_front, lt))).0, last)
        ],
        (before i lt).1,
      )

  -- so there is room behind them
  pub behind : ((i : ℕ) → i < count → (place (take count to) i ≤ at) × (height (take count to) i < value)) → (0 < count → place to (count - 1) ≢ at) → count ≤ at
  behind before other = room_left cap count at (take count to) are size_front (λ i l. (strictly before other i l).0)

pub put_over : (cap : ℕ) (to : Steps) (n at value : ℕ) → n < length to → AreSteps cap (take (n + 1) to) → at < cap → value ≤ unit → place to n ≡ at → height to n < value → IsPut cap at value (take (n + 1) to) (take (n + 1) (slice_set to n (at, value)))
put_over cap to n at value space are room low same more =
    let ys : Steps = take n to in
    let x : ℕ × ℕ = (at, height to n) in
    let was : take (n + 1) to ≡ ys ++ x ∷ [] = take_more to n (0, 0) space ∙ ap (λ p. ys ++ (p, height to n) ∷ []) same in
    let size : length ys ≡ n = length-take-le n to (omega (arith, space)) in
    let whole : AreSteps cap (ys ++ x ∷ []) = subst (AreSteps cap) was are in
    let first : AreSteps cap ys = steps_take_front cap ys x whole in
    let before : (i : ℕ) → i < length ys → (place ys i < at) × (height ys i < height to n) = λ i l.
    let r : (place (ys ++ x ∷ []) i < place (ys ++ x ∷ []) (length ys)) × (height (ys ++ x ∷ []) i < height (ys ++ x ∷ []) (length ys)) = whole.rising i (length ys) l (omega (arith, size_more ys x)) in
    (omega (arith, r.0, old_place ys x i l, end_place ys x (length ys) refl), omega (arith, r.1, old_height ys x i l, end_height ys x (length ys) refl)) in
    subst (λ zs. IsPut cap at value zs (take (n + 1) (slice_set to n (at, value)))) (sym was)
    (subst (IsPut cap at value (ys ++ x ∷ [])) (sym (take_more_set to n (at, value) space))
    (put_last cap ys at (height to n) value first before room low more))
  where
    steps_take_front : (cap : ℕ) (ys : Steps) (x : ℕ × ℕ) → AreSteps cap (ys ++ x ∷ []) → AreSteps cap ys
    steps_take_front cap ys x are = subst (AreSteps cap) (take_at ys (x ∷ []) (length ys) refl) (steps_take cap (length ys) (ys ++ x ∷ []) (omega (arith, size_more ys x)) are)

pub put_over_last : (cap : ℕ) (to : Steps) (count at value : ℕ) → 0 < count → count ≤ length to → AreSteps cap (take count to) → at < cap → value ≤ unit
    → ((i : ℕ) → i < count → (place (take count to) i ≤ at) × (height (take count to) i < value))
    → place to (count - 1) ≡ at → IsPut cap at value (take count to) (take count (slice_set to (count - 1) (at, value)))
put_over_last cap to count at value some le are room low before same =
    let n : ℕ = count - 1 in
    let e : n + 1 ≡ count = omega (arith, some) in
    let h : height (take count to) n ≡ height to n = ap (λ (s : ℕ × ℕ). s.1) (get_or-take count to n (0, 0) (omega (arith, some))) in
    subst (λ m. IsPut cap at value (take m to) (take m (slice_set to n (at, value)))) e
    (put_over cap to n at value (omega (arith, le, some)) (subst (λ m. AreSteps cap (take m to)) (sym e) are) room low same
    (omega (arith, h, (before n (omega (arith, some))).1)))
