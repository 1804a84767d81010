-- Marks whose sums are the weighted sums of an addition.
use Rattle.std.proofs.Common.{◌≡◌, ℕ, zero, suc, ◌<◌, ◌≤◌, ◌+◌, ◌-◌, ◌*◌, ◌∙◌, sym, ap, List, length, take, set, get_or, sum_by, arith, refl, inl, inr, ⊎_elim}
use Rattle.std.proofs.Math.Nat.{eq-or-lt_of_le}
use Rattle.std.proofs.lemmas.List.{length-set, take-take, take_all, take-set-le, get_or-set_same, get_or-set_other}
use Rattle.std.proofs.lemmas.List.Sums.{sum_by_more, sum_by-take-le}
use Rattle.std.proofs.lemmas.Bool.{cases_lt}
use Rattle.prta_mass.specs.Table.{Table, total, greatest, IsTable}
use Rattle.prta_mass.specs.Chances.{before}
use Rattle.prta_mass.proofs.Latest.{times_low}
use Rattle.prta_dist.proofs.Sums.{before_near, before_far, before_both, sum_most, sum_all}
use Rattle.prta_stair.specs.Steps.{Steps, value_at, place, height, AreRising}
use Rattle.prta_stair.specs.Reading.{level}
use Rattle.prta_stair.specs.Adding.{sum_at, sum_of_first}
use Rattle.prta_stair.proofs.Values.{value_is, value_end, more_here, more_before, level_next}

-- ---- sums of the first marks

pub first_more : (marks : List ℕ) (n : ℕ) → n < length marks → sum_of_first (n + 1) marks ≡ sum_of_first n marks + get_or marks n 0
first_more marks n lt = sum_by_more (λ (x : ℕ). x) marks n 0 lt

pub first_mono : (marks : List ℕ) (n m : ℕ) → n ≤ m → sum_of_first n marks ≤ sum_of_first m marks
first_mono marks n m le =
    let part : sum_by (λ (x : ℕ). x) (take n (take m marks)) ≤ sum_by (λ (x : ℕ). x) (take m marks) = sum_by-take-le (λ (x : ℕ). x) (take m marks) n in
    omega (arith, part, ap (λ (xs : List ℕ). sum_by (λ (x : ℕ). x) xs) (take-take n m marks le))

pub first_past : (marks : List ℕ) (n : ℕ) → length marks ≤ n → sum_of_first n marks ≡ sum_of_first (length marks) marks
first_past marks n le = ap (λ (xs : List ℕ). sum_by (λ (x : ℕ). x) xs) (take_all n marks le ∙ sym (take_all (length marks) marks (omega arith)))

-- without marks
pub first_zero : (marks : List ℕ) (n : ℕ) → ((k : ℕ) → k < length marks → get_or marks k 0 ≡ 0) → n ≤ length marks → sum_of_first n marks ≡ 0
first_zero marks zero none le = refl
first_zero marks (suc n) none le =
    let e : suc n ≡ n + 1 = omega arith in
    ap (λ m. sum_of_first m marks) e ∙ first_more marks n (omega arith) ∙ omega (arith, first_zero marks n none (omega arith), none n (omega arith))

-- one mark raised by v
raised_before : (marks : List ℕ) (at y n : ℕ) → n ≤ at → sum_of_first n (set marks at y) ≡ sum_of_first n marks
raised_before marks at y n le = ap (λ (xs : List ℕ). sum_by (λ (x : ℕ). x) xs) (take-set-le n marks at y le)

raised_past : (marks : List ℕ) (at v d : ℕ) → at + 1 + d ≤ length marks → sum_of_first (at + 1 + d) (set marks at (get_or marks at 0 + v)) ≡ sum_of_first (at + 1 + d) marks + v
raised_past marks at v zero le =
    let new : List ℕ = set marks at (get_or marks at 0 + v) in
    let size : length new ≡ length marks = length-set marks at (get_or marks at 0 + v) in
    let e : at + 1 + 0 ≡ at + 1 = omega arith in
    let a : sum_of_first (at + 1) new ≡ sum_of_first at new + get_or new at 0 = first_more new at (omega arith) in
    let b : sum_of_first (at + 1) marks ≡ sum_of_first at marks + get_or marks at 0 = first_more marks at (omega arith) in
    let c : get_or new at 0 ≡ get_or marks at 0 + v = get_or-set_same marks at (get_or marks at 0 + v) 0 (omega arith) in
    ap (λ n. sum_of_first n new) e ∙ omega (arith, a, b, c, raised_before marks at (get_or marks at 0 + v) at (omega arith)) ∙ ap (λ n. sum_of_first n marks + v) (sym e)
raised_past marks at v (suc d) le =
    let new : List ℕ = set marks at (get_or marks at 0 + v) in
    let size : length new ≡ length marks = length-set marks at (get_or marks at 0 + v) in
    let e : at + 1 + suc d ≡ at + 1 + d + 1 = omega arith in
    let a : sum_of_first (at + 1 + d + 1) new ≡ sum_of_first (at + 1 + d) new + get_or new (at + 1 + d) 0 = first_more new (at + 1 + d) (omega arith) in
    let b : sum_of_first (at + 1 + d + 1) marks ≡ sum_of_first (at + 1 + d) marks + get_or marks (at + 1 + d) 0 = first_more marks (at + 1 + d) (omega arith) in
    let c : get_or new (at + 1 + d) 0 ≡ get_or marks (at + 1 + d) 0 = get_or-set_other marks at (at + 1 + d) (get_or marks at 0 + v) 0 (omega arith) in
    ap (λ n. sum_of_first n new) e ∙ omega (arith, a, b, c, raised_past marks at v d (omega arith)) ∙ ap (λ n. sum_of_first n marks + v) (sym e)

pub raised_from : (marks : List ℕ) (at v n : ℕ) → at < n → n ≤ length marks → sum_of_first n (set marks at (get_or marks at 0 + v)) ≡ sum_of_first n marks + v
raised_from marks at v n lt le =
    let e : n ≡ at + 1 + (n - at - 1) = omega arith in
    ap (λ m. sum_of_first m (set marks at (get_or marks at 0 + v))) e ∙ raised_past marks at v (n - at - 1) (omega arith) ∙ ap (λ m. sum_of_first m marks + v) (sym e)

-- ---- the marks of one pair

full : (steps : Steps) (n k : ℕ) → AreRising steps → n < length steps → place steps n ≤ k → value_at (take n steps) k ≡ level steps n
full steps zero k rise lt le = refl
full steps (suc n) k rise lt le = more_here steps n k (omega (arith, lt)) (omega (arith, (rise n (suc n) (omega arith) lt).0, le))

module _ (steps : Steps) (c k i : ℕ) (rise : AreRising steps) (lt : i < length steps) where
  next : suc i ≡ i + 1
  next = omega arith

  -- a step that counts from later on
  later : k < place steps i + c → before (value_at (take (i + 1) steps)) k c ≡ before (value_at (take i steps)) k c
  later far = ⊎_elim
      (λ (none : k < c). before_far (value_at (take (i + 1) steps)) k c none ∙ sym (before_far (value_at (take i steps)) k c none))
      (λ (near : c ≤ k).
      before_near (value_at (take (i + 1) steps)) k c near
      ∙ ap (λ n. value_at (take n steps) (k - c)) (sym next)
      ∙ more_before steps i (k - c) lt (omega (arith, far, near))
      ∙ sym (before_near (value_at (take i steps)) k c near))
      (cases_lt k c)

  -- a step that counts
  now_height : place steps i + c ≤ k → before (value_at (take (i + 1) steps)) k c ≡ height steps i
  now_height here =
      before_near (value_at (take (i + 1) steps)) k c (omega (arith, here)) ∙ ap (λ n. value_at (take n steps) (k - c)) (sym next) ∙ more_here steps i (k - c) lt (omega (arith, here))

  was_level : place steps i + c ≤ k → before (value_at (take i steps)) k c ≡ level steps i
  was_level here = before_near (value_at (take i steps)) k c (omega (arith, here)) ∙ full steps i (k - c) rise lt (omega (arith, here))

split : (w a b : ℕ) → a ≤ b → w * a + w * (b - a) ≡ w * b
split w a b le = let e : a + (b - a) ≡ b = omega (arith, le) in let f : w * (a + (b - a)) ≡ w * b = ap (λ x. w * x) e in omega (arith, f)

-- the marks so far are those of the first i steps
abbrev pub MarkedSteps : Steps → List ℕ → List ℕ → ℕ → ℕ → ℕ → ℕ → Type 0
MarkedSteps steps old marks first c w i = (j : ℕ) → j < length old → sum_of_first (j + 1) marks ≡ sum_of_first (j + 1) old + w * before (value_at (take i steps)) (first + j) c

module _ (steps : Steps) (old marks : List ℕ) (first c w i : ℕ) (rise : AreRising steps) (lt : i < length steps) (size : length marks ≡ length old) (low : first ≤ place steps i) (so_far : MarkedSteps steps old marks first c w i) where
  pub mark_step : (at : ℕ) → at ≡ place steps i - first + c → at < length marks → MarkedSteps steps old (set marks at (get_or marks at 0 + w * (height steps i - level steps i))) first c w (i + 1)
  mark_step at is room j h = ⊎_elim
      (λ (far : j < at).
      raised_before marks at (get_or marks at 0 + w * (height steps i - level steps i)) (j + 1) (omega arith)
      ∙ so_far j h
      ∙ ap (λ x. sum_of_first (j + 1) old + w * x) (sym (later steps c (first + j) i rise lt (omega (arith, far, is, low)))))
      (λ (near : at ≤ j).
      let here : place steps i + c ≤ first + j = omega (arith, near, is, low) in
      raised_from marks at (w * (height steps i - level steps i)) (j + 1) (omega arith) (omega (arith, size))
      ∙ ap (λ x. x + w * (height steps i - level steps i)) (so_far j h ∙ ap (λ x. sum_of_first (j + 1) old + w * x) (was_level steps c (first + j) i rise lt here))
      ∙ joined (sum_of_first (j + 1) old) (w * level steps i) (w * (height steps i - level steps i)) (w * height steps i) (split w (level steps i) (height steps i) (level_next steps i rise lt))
      ∙ ap (λ x. sum_of_first (j + 1) old + w * x) (sym (now_height steps c (first + j) i rise lt here)))
      (cases_lt j at)
    where
      joined : (s a b d : ℕ) → a + b ≡ d → s + a + b ≡ s + d
      joined s a b d e = omega (arith, e)

  pub mark_past : length marks ≤ place steps i - first + c → MarkedSteps steps old marks first c w (i + 1)
  mark_past past j h = so_far j h ∙ ap (λ x. sum_of_first (j + 1) old + w * x) (sym (later steps c (first + j) i rise lt (omega (arith, past, size, low))))

  -- a mark has room for its rise
  pub mark_fits : (at bound : ℕ) → at ≡ place steps i - first + c → at < length marks → value_at steps (place steps i) ≡ height steps i → sum_of_first (at + 1) old + w * before (value_at steps) (first + at) c < bound → get_or marks at 0 + w * (height steps i - level steps i) < bound
  mark_fits at bound is room here fits =
      let k : ℕ = first + at in
      let there : place steps i + c ≡ k = omega (arith, is, low) in
      let end : before (value_at steps) k c ≡ height steps i = before_near (value_at steps) k c (omega (arith, there)) ∙ ap (value_at steps) (let e : k - c ≡ place steps i = omega (arith, there) in e) ∙ here in
      let a : get_or marks at 0 ≤ sum_of_first (at + 1) marks = omega (arith, first_more marks at room) in
      let b : sum_of_first (at + 1) marks ≡ sum_of_first (at + 1) old + w * level steps i = so_far at (omega (arith, size, room)) ∙ ap (λ x. sum_of_first (at + 1) old + w * x) (was_level steps c k i rise lt (omega (arith, there))) in
      let d : w * before (value_at steps) k c ≡ w * height steps i = ap (λ x. w * x) end in
      omega (arith, a, b, d, split w (level steps i) (height steps i) (level_next steps i rise lt), fits)

-- ---- the window of the sums

pub sum_early : (table : Table) (steps : Steps) (k : ℕ) → AreRising steps → (0 < length steps → k < place steps 0) → sum_at table steps k ≡ 0
sum_early table steps k rise early =
    let most : sum_at table steps k ≤ total table * 0 =
    sum_most table (before (value_at steps) k) 0 (λ c. before_both (λ x. x ≤ 0) (value_at steps) k c (λ near. omega (arith, value_is steps 0 (k - c) rise (omega arith) (λ n l. absurd (omega arith)) (λ l. omega (arith, early l)))) (λ far. omega arith)) in
    omega (arith, most)

pub sum_late : (table : Table) (steps : Steps) (k : ℕ) → IsTable table → AreRising steps → 0 < length steps → place steps (length steps - 1) + greatest table ≤ k → sum_at table steps k ≡ total table * level steps (length steps)
sum_late table steps k is rise some late =
    sum_all table (before (value_at steps) k) (level steps (length steps)) (λ i d h.
    let low = times_low table is i d h in
    before_near (value_at steps) k _ (omega arith) ∙ value_end steps _ rise (λ n l. omega (arith, last_place steps n rise l, late)))
  where
    last_place : (steps : Steps) (n : ℕ) → AreRising steps → n < length steps → place steps n ≤ place steps (length steps - 1)
    last_place steps n rise l = elim (eq-or-lt_of_le (let e : n ≤ length steps - 1 = omega (arith, l) in e)) [
      | inl same ↦ omega (arith, ap (place steps) same)
      | inr less ↦ omega (arith, (rise n (length steps - 1) less (omega (arith, l))).0)
    ]

pub first_place : (steps : Steps) (i : ℕ) → AreRising steps → i < length steps → place steps 0 ≤ place steps i
first_place steps zero rise lt = omega arith
first_place steps (suc i) rise lt = omega (arith, (rise 0 (suc i) (omega arith) lt).0)
