-- The value of a list at a place, by its steps.
use Rattle.std.proofs.Common.{◌≡◌, ℕ, zero, suc, ◌<◌, ◌≤◌, ◌+◌, ◌-◌, ◌∙◌, sym, ap, [], ◌∷◌, ◌++◌, length, slice_index_or, take, arith, refl, subst, inl, inr, nat_le, if◌then◌else◌, ⊎_elim}
use Rattle.std.proofs.lemmas.List.Sums.{fold-append}
use Rattle.std.proofs.lemmas.List.{take_more, take_all}
use Rattle.std.proofs.Math.Nat.{eq-or-lt_of_le}
use Rattle.std.proofs.lemmas.Bool.{cases_lt, le-leb, lt-leb}
use Rattle.prta_mass.specs.Unit.{unit}
use Rattle.prta_mass.specs.Chances.{before}
use Rattle.prta_dist.proofs.Sums.{before_near, before_far}
use Rattle.prta_stair.specs.Steps.{Steps, value_at, place, height, AreRising, AreSteps}
use Rattle.prta_stair.specs.Reading.{level, IsReached, AreBelow}

-- one step more at the end
pub value_more : (xs : Steps) (x : ℕ × ℕ) (k : ℕ) → value_at (xs ++ x ∷ []) k ≡ (if nat_le x.0 k then x.1 else value_at xs k)
value_more xs x k = fold-append (λ value step. if nat_le step.0 k then step.1 else value) 0 xs (x ∷ [])

pub value_more_here : (xs : Steps) (x : ℕ × ℕ) (k : ℕ) → x.0 ≤ k → value_at (xs ++ x ∷ []) k ≡ x.1
value_more_here xs x k h = value_more xs x k ∙ ap (λ b. if b then x.1 else value_at xs k) (le-leb x.0 k h)

pub value_more_before : (xs : Steps) (x : ℕ × ℕ) (k : ℕ) → k < x.0 → value_at (xs ++ x ∷ []) k ≡ value_at xs k
value_more_before xs x k h = value_more xs x k ∙ ap (λ b. if b then x.1 else value_at xs k) (lt-leb x.0 k h)

take_whole : (xs : Steps) → take (length xs) xs ≡ xs
take_whole xs = take_all (length xs) xs (omega arith)

more : (steps : Steps) (n k : ℕ) → n < length steps → value_at (take (suc n) steps) k ≡ value_at (take n steps ++ slice_index_or steps n (0, 0) ∷ []) k
more steps n k lt = ap (λ ys. value_at ys k) (ap (λ m. take m steps) (let e : suc n ≡ n + 1 = omega arith in e) ∙ take_more steps n (0, 0) lt)

pub more_here : (steps : Steps) (n k : ℕ) → n < length steps → place steps n ≤ k → value_at (take (suc n) steps) k ≡ height steps n
more_here steps n k lt h = more steps n k lt ∙ value_more_here (take n steps) (slice_index_or steps n (0, 0)) k h

pub more_before : (steps : Steps) (n k : ℕ) → n < length steps → k < place steps n → value_at (take (suc n) steps) k ≡ value_at (take n steps) k
more_before steps n k lt h = more steps n k lt ∙ value_more_before (take n steps) (slice_index_or steps n (0, 0)) k h

-- later steps that stand above k change nothing at k
take_still : (steps : Steps) (i k m : ℕ) → i + m ≤ length steps → ((n : ℕ) → i ≤ n → n < length steps → k < place steps n) → value_at (take (i + m) steps) k ≡ value_at (take i steps) k
take_still steps i k zero le late = ap (λ n. value_at (take n steps) k) (let e : i + 0 ≡ i = omega arith in e)
take_still steps i k (suc m) le late =
    ap (λ n. value_at (take n steps) k) (let e : i + suc m ≡ suc (i + m) = omega arith in e)
    ∙ more_before steps (i + m) k (omega arith) (late (i + m) (omega arith) (omega arith))
    ∙ take_still steps i k m (omega arith) late

late_from : (steps : Steps) (i k : ℕ) → AreRising steps → (i < length steps → k < place steps i) → (n : ℕ) → i ≤ n → n < length steps → k < place steps n
late_from steps i k rise next n le lt =
    let first : k < place steps i = next (omega arith) in
    elim (eq-or-lt_of_le le) [ inl same ↦ subst (λ m. k < place steps m) same first | inr less ↦ omega (arith, first, (rise i n less lt).0) ]

-- the first i steps make the value below the next one
pub value_take : (steps : Steps) (i k : ℕ) → AreRising steps → i ≤ length steps → (i < length steps → k < place steps i) → value_at steps k ≡ value_at (take i steps) k
value_take steps i k rise le next =
    ap (λ ys. value_at ys k) (sym (take_whole steps))
    ∙ ap (λ n. value_at (take n steps) k) (let e : length steps ≡ i + (length steps - i) = omega (arith, le) in e)
    ∙ take_still steps i k (length steps - i) (omega (arith, le)) (late_from steps i k rise next)

-- the value at k is that of the last step at or before k
pub value_is : (steps : Steps) (i k : ℕ) → AreRising steps → i ≤ length steps → ((n : ℕ) → n < i → place steps n ≤ k) → (i < length steps → k < place steps i) → value_at steps k ≡ level steps i
value_is steps zero k rise le low next = value_take steps 0 k rise le next
value_is steps (suc i) k rise le low next = value_take steps (suc i) k rise le next ∙ more_here steps i k (omega (arith, le)) (low i (omega arith))

-- at a step's own place
pub value_here : (steps : Steps) (i : ℕ) → AreRising steps → i < length steps → value_at steps (place steps i) ≡ height steps i
value_here steps i rise lt =
    value_is steps (suc i) (place steps i) rise (omega arith)
    (λ n h. elim (eq-or-lt_of_le (let e : n ≤ i = omega arith in e)) [ inl same ↦ omega (arith, ap (place steps) same) | inr less ↦ omega (arith, (rise n i less lt).0) ])
    (λ h. (rise i (suc i) (omega arith) h).0)

pub before_is : (steps : Steps) (c k i : ℕ) → AreRising steps → IsReached steps c k i → (i < length steps → k < place steps i + c) → before (value_at steps) k c ≡ level steps i
before_is steps c k i rise reached next = ⊎_elim
    (λ (far : k < c). before_far (value_at steps) k c far ∙ none i reached.passed far)
    (λ (near : c ≤ k). before_near (value_at steps) k c near ∙ value_is steps i (k - c) rise reached.within (λ n lt. omega (arith, reached.passed n lt)) (λ lt. omega (arith, next lt, near)))
    (cases_lt k c)
  where
    none : (i : ℕ) → ((n : ℕ) → n < i → place steps n + c ≤ k) → k < c → 0 ≡ level steps i
    none zero low far = refl
    none (suc i) low far = absurd (omega (arith, low i (omega arith), far))

-- no places before
pub before_none : (F : ℕ → ℕ) (k : ℕ) → before F k 0 ≡ F k
before_none F k = before_near F k 0 (omega arith) ∙ ap F (let e : k - 0 ≡ k = omega arith in e)

-- ---- the list doesn't fall

pub level_next : (steps : Steps) (n : ℕ) → AreRising steps → n < length steps → level steps n ≤ height steps n
level_next steps zero rise lt = omega arith
level_next steps (suc n) rise lt = omega (arith, (rise n (suc n) (omega arith) lt).1)

pub value_most : (steps : Steps) (n k : ℕ) → AreRising steps → n ≤ length steps → value_at (take n steps) k ≤ level steps n
value_most steps zero k rise le = omega arith
value_most steps (suc n) k rise le = ⊎_elim
    (λ (far : k < place steps n). omega (arith, more_before steps n k (omega arith) far, value_most steps n k rise (omega arith), level_next steps n rise (omega arith)))
    (λ (here : place steps n ≤ k). omega (arith, more_here steps n k (omega arith) here))
    (cases_lt k (place steps n))

mono_take : (steps : Steps) (n j k : ℕ) → AreRising steps → n ≤ length steps → j ≤ k → value_at (take n steps) j ≤ value_at (take n steps) k
mono_take steps zero j k rise le l = omega arith
mono_take steps (suc n) j k rise le l = ⊎_elim
    (λ (far : k < place steps n). omega (arith, more_before steps n k (omega arith) far, more_before steps n j (omega arith) (omega arith), mono_take steps n j k rise (omega arith) l))
    (λ (here : place steps n ≤ k). ⊎_elim
    (λ (far : j < place steps n). omega (arith, more_here steps n k (omega arith) here, more_before steps n j (omega arith) far, value_most steps n j rise (omega arith), level_next steps n rise (omega arith)))
    (λ (both : place steps n ≤ j). omega (arith, more_here steps n k (omega arith) here, more_here steps n j (omega arith) both))
    (cases_lt j (place steps n)))
    (cases_lt k (place steps n))

pub value_mono : (steps : Steps) (j k : ℕ) → AreRising steps → j ≤ k → value_at steps j ≤ value_at steps k
value_mono steps j k rise l = subst (λ ys. value_at ys j ≤ value_at ys k) (take_whole steps) (mono_take steps (length steps) j k rise (omega arith) l)

-- a value is 0 or that of a step at or before the place
either_take : (steps : Steps) (k n : ℕ) (P : ℕ → Type 0) → n ≤ length steps → P 0 → ((i : ℕ) → i < length steps → place steps i ≤ k → P (height steps i)) → P (value_at (take n steps) k)
either_take steps k zero P le none some = none
either_take steps k (suc n) P le none some = ⊎_elim
    (λ (far : k < place steps n). subst P (sym (more_before steps n k (omega arith) far)) (either_take steps k n P (omega arith) none some))
    (λ (here : place steps n ≤ k). subst P (sym (more_here steps n k (omega arith) here)) (some n (omega arith) here))
    (cases_lt k (place steps n))

pub value_either : (steps : Steps) (k : ℕ) (P : ℕ → Type 0) → P 0 → ((i : ℕ) → i < length steps → place steps i ≤ k → P (height steps i)) → P (value_at steps k)
value_either steps k P none some = subst (λ ys. P (value_at ys k)) (take_whole steps) (either_take steps k (length steps) P (omega arith) none some)

pub value_limited : (cap : ℕ) (steps : Steps) (k : ℕ) → AreSteps cap steps → value_at steps k ≤ unit
value_limited cap steps k are = value_either steps k (λ v. v ≤ unit) (omega arith) (λ i lt le. are.limited i lt)

-- past all steps the value is the last one's
pub value_end : (steps : Steps) (k : ℕ) → AreRising steps → AreBelow (k + 1) steps → value_at steps k ≡ level steps (length steps)
value_end steps k rise below = value_is steps (length steps) k rise (omega arith) (λ n lt. omega (arith, below n lt)) (λ lt. absurd (omega arith))

pub value_past : (cap : ℕ) (steps : Steps) (k : ℕ) → AreSteps cap steps → cap ≤ k → value_at steps k ≡ value_at steps (cap - 1)
value_past cap steps k are le =
    value_end steps k are.rising (λ i h. omega (arith, are.below i h))
    ∙ sym (value_end steps (cap - 1) are.rising (λ i h. omega (arith, are.below i h)))

-- strictly rising places leave room: the place of step i is at least i
pub place_least : (steps : Steps) (i : ℕ) → AreRising steps → i < length steps → i ≤ place steps i
place_least steps zero rise lt = omega arith
place_least steps (suc i) rise lt = omega (arith, (rise i (suc i) (omega arith) lt).0, place_least steps i rise (omega arith))
