-- Two lists side by side: how far one is above the other, and the first place where one is below the other.
use Rattle.std.proofs.Common.{◌≡◌, ℕ, zero, suc, ◌<◌, ◌≤◌, ◌+◌, ◌-◌, ◌∙◌, max, sym, ap, false, Some, None, option_map, length, get_or, arith, refl, subst, inl, inr, ⊎_elim}
use Rattle.std.proofs.Math.Nat.{eq-or-lt_of_le}
use Rattle.std.proofs.lemmas.Bool.{cases_lt, le-ltb}
use Rattle.prta_mass.specs.Chances.{at}
use Rattle.prta_mass.proofs.Find.{find_none_in_range}
use Rattle.prta_mass.specs.declared.direction.Dir.TheVariants.{Up, Down}
use Rattle.prta_mass.specs.declared.support.Support.{Support}
use Rattle.prta_resample.specs.Resample.{read_place, difference, largest, moved_amount}
use Rattle.prta_resample.proofs.Moving.{below_largest, largest_below}
use Rattle.prta_resample.proofs.Places.{read_safe}
use Rattle.prta_dist.specs.declared.effect.Break.{Break}
use Rattle.prta_dist.specs.Curve.{breaks_at, break_at, first_break}
use Rattle.prta_dist.proofs.Cells.{length-cells_of, at-cells_of, cell-cells_of}
use Rattle.prta_dist.proofs.Breaks.{break_found}
use Rattle.prta_stair.specs.Steps.{Steps, value_at, cells_by_steps, place, height, AreRising, AreSteps}
use Rattle.prta_stair.specs.Reading.{AreBelow}
use Rattle.prta_stair.specs.Moving.{Makes}
use Rattle.prta_stair.proofs.Values.{value_is, value_here, value_mono, value_either, value_past}

-- ---- the largest excess

-- how far one list is above another at k
abbrev pub excess : Steps → Steps → ℕ → ℕ
excess above below k = value_at above k - value_at below k

-- the largest excess at the first i steps of the upper list
pub record Excess (above below : Steps) (i most : ℕ) : Type 0 where
  pub over : (m : ℕ) → m < i → height above m - value_at below (place above m) ≤ most
  pub reached : (cap : ℕ) → AreBelow cap above → most ≤ largest cap (excess above below)

module _ (above below : Steps) (rise : AreRising above) where
  pub excess_none : Excess above below 0 0
  excess_none = record { over = λ m l. absurd (omega arith); reached = λ cap h. omega arith }

  pub excess_more : (i most here next : ℕ) → i < length above → here ≡ height above i - value_at below (place above i) → next ≡ max most here → Excess above below i most → Excess above below (i + 1) next
  excess_more i most here next lt is step so_far = record {
    over = λ m l. elim (eq-or-lt_of_le (let e : m ≤ i = omega (arith, l) in e)) [
      | inl same ↦ let e : height above m - value_at below (place above m) ≡ height above i - value_at below (place above i) = ap (λ n. height above n - value_at below (place above n)) same in omega (arith, e, is)
      | inr less ↦ omega (arith, so_far.over m less)
    ];
    reached = λ cap h.
        let a : excess above below (place above i) ≤ largest cap (excess above below) = below_largest cap (excess above below) (place above i) (h i lt) in
        omega (arith, so_far.reached cap h, a, value_here above i rise lt, is);
  }

  pub excess_all : AreRising below → (most cap : ℕ) → Excess above below (length above) most → AreBelow cap above → most ≡ largest cap (excess above below)
  excess_all low most cap all under =
      let a : largest cap (excess above below) ≤ most = largest_below cap (excess above below) most (λ k h.
      value_either above k (λ v. v - value_at below k ≤ most) (omega arith)
      (λ i lt le. omega (arith, all.over i lt, value_mono below (place above i) k low le))) in
      omega (arith, a, all.reached cap under)

-- ---- the moved amount

largest_agrees : (n : ℕ) (F G : ℕ → ℕ) → ((k : ℕ) → k < n → F k ≡ G k) → largest n F ≡ largest n G
largest_agrees zero F G h = refl
largest_agrees (suc n) F G h = let e = largest_agrees n F G (λ k l. h k (omega arith)) in let f = h n (omega arith) in rw (e, f) refl

module _ (cap : ℕ) (old new : Steps) where
  moved_is : (F : ℕ → ℕ) → ((k : ℕ) → k < cap → difference (value_at old k) (value_at new k) ≡ F k) → largest cap F ≡ moved_amount (cells_by_steps cap old) (cells_by_steps cap new)
  moved_is F same =
      sym (ap (λ n. largest n (λ k. difference (at (cells_by_steps cap old) k) (at (cells_by_steps cap new) k))) (length-cells_of cap (value_at old))
      ∙ largest_agrees cap (λ k. difference (at (cells_by_steps cap old) k) (at (cells_by_steps cap new) k)) F
      (λ k h. ap (λ a. difference a (at (cells_by_steps cap new) k)) (at-cells_of cap (value_at old) k h) ∙ ap (difference (value_at old k)) (at-cells_of cap (value_at new) k h) ∙ same k h))

  module _ (support : Support) (are : AreSteps cap old) where
    -- in Up no value rises, in Down none falls
    falls_up : Makes cap (λ k. value_at old (read_place Up support cap k)) new → (k : ℕ) → k < cap → value_at new k ≤ value_at old k
    falls_up makes k h = omega (arith, makes.values k h, value_mono old (read_place Up support cap k) k are.rising (read_safe support cap Up k))

    rises_down : Makes cap (λ k. value_at old (read_place Down support cap k)) new → (k : ℕ) → k < cap → value_at old k ≤ value_at new k
    rises_down makes k h = omega (arith, makes.values k h, value_mono old k (read_place Down support cap k) are.rising (read_safe support cap Down k))

    -- past the last cell too
    everywhere : (low high : Steps) → AreSteps cap low → AreSteps cap high → 0 < cap → ((k : ℕ) → k < cap → value_at low k ≤ value_at high k) → (k : ℕ) → value_at low k ≤ value_at high k
    everywhere low high low_are high_are some inside k = ⊎_elim
        (λ (l : k < cap). inside k l)
        (λ (l : cap ≤ k). omega (arith, value_past cap low k low_are l, value_past cap high k high_are l, inside (cap - 1) (omega arith)))
        (cases_lt k cap)

    pub under_up : 0 < cap → Makes cap (λ k. value_at old (read_place Up support cap k)) new → (k : ℕ) → value_at new k ≤ value_at old k
    under_up some makes = everywhere new old makes.steps are some (falls_up makes)

    pub over_down : 0 < cap → Makes cap (λ k. value_at old (read_place Down support cap k)) new → (k : ℕ) → value_at old k ≤ value_at new k
    over_down some makes = everywhere old new are makes.steps some (rises_down makes)

    pub moved_up : Makes cap (λ k. value_at old (read_place Up support cap k)) new → largest cap (excess old new) ≡ moved_amount (cells_by_steps cap old) (cells_by_steps cap new)
    moved_up makes = moved_is (excess old new) (λ k h. omega (arith, falls_up makes k h))

    pub moved_down : Makes cap (λ k. value_at old (read_place Down support cap k)) new → largest cap (excess new old) ≡ moved_amount (cells_by_steps cap old) (cells_by_steps cap new)
    moved_down makes = moved_is (excess new old) (λ k h. omega (arith, rises_down makes k h))

-- ---- the first break

-- below the place of step i the list isn't above the image
abbrev pub Clear : Steps → Steps → ℕ → Type 0
Clear steps image i = (k : ℕ) → (i < length steps → k < place steps i) → value_at steps k ≤ value_at image k

module _ (steps image : Steps) (rise : AreRising steps) (image_rises : AreRising image) where
  pub clear_none : Clear steps image 0
  clear_none k next = omega (arith, value_is steps 0 k rise (omega arith) (λ n l. absurd (omega arith)) next)

  pub clear_more : (i : ℕ) → i < length steps → height steps i ≤ value_at image (place steps i) → Clear steps image i → Clear steps image (i + 1)
  clear_more i lt low clear k next = ⊎_elim
      (λ (l : k < place steps i). clear k (λ _. l))
      (λ (l : place steps i ≤ k).
      let here : value_at steps k ≡ height steps i = value_is steps (suc i) k rise (omega arith)
      (λ n h. elim (eq-or-lt_of_le (let e : n ≤ i = omega arith in e)) [ inl same ↦ omega (arith, ap (place steps) same) | inr less ↦ omega (arith, (rise n i less lt).0) ])
      (λ h. subst (λ n. k < place steps n) (let e : i + 1 ≡ suc i = omega arith in e) (next (omega arith))) in
      omega (arith, here, low, value_mono image (place steps i) k image_rises l))
      (cases_lt k (place steps i))

  unbroken_at : (cap k : ℕ) → k < cap → value_at steps k ≤ value_at image k → breaks_at (cells_by_steps cap steps) (cells_by_steps cap image) k ≡ false
  unbroken_at cap k h le = le-ltb (at (cells_by_steps cap image) k) (at (cells_by_steps cap steps) k) (omega (arith, at-cells_of cap (value_at steps) k h, at-cells_of cap (value_at image) k h))

  pub clear_all : (cap : ℕ) → Clear steps image (length steps) → None ≡ first_break (cells_by_steps cap steps) (cells_by_steps cap image)
  clear_all cap clear =
      let size : length (cells_by_steps cap steps) ≡ cap = length-cells_of cap (value_at steps) in
      sym (ap (option_map (break_at (cells_by_steps cap steps) (cells_by_steps cap image)))
      (find_none_in_range (breaks_at (cells_by_steps cap steps) (cells_by_steps cap image)) 0 (length (cells_by_steps cap steps))
      (λ k low high. unbroken_at cap k (omega arith) (clear k (λ h. absurd (omega arith))))))

  pub broken_at : (cap i : ℕ) → i < length steps → AreBelow cap steps → value_at image (place steps i) < height steps i → Clear steps image i →
      Some (record { place = place steps i; had = height steps i; got = value_at image (place steps i) }) ≡ first_break (cells_by_steps cap steps) (cells_by_steps cap image)
  broken_at cap i lt under less clear =
      let p : ℕ = place steps i in
      let inside : p < cap = under i lt in
      let size : length (cells_by_steps cap steps) ≡ cap = length-cells_of cap (value_at steps) in
      let image_size : length (cells_by_steps cap image) ≡ cap = length-cells_of cap (value_at image) in
      let had : height steps i ≡ get_or (cells_by_steps cap steps) p 0 = sym (cell-cells_of cap (value_at steps) p 0 inside ∙ value_here steps i rise lt) in
      let got : value_at image p ≡ get_or (cells_by_steps cap image) p 0 = sym (cell-cells_of cap (value_at image) p 0 inside) in
      ap (λ (b : Break). Some b) (λ j. record { place = p; had = had j; got = got j })
      ∙ break_found (cells_by_steps cap steps) (cells_by_steps cap image) p (omega arith) (omega arith) (omega (arith, had, got, less))
      (λ j below. unbroken_at cap j (omega arith) (clear j (λ _. below)))
