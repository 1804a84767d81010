-- Where a step moves as its list is re-sampled: in Up to the least support point from its place on, in Down to the greatest at or before it.
use Rattle.std.proofs.Common.{◌≡◌, ◌≢◌, ℕ, zero, suc, ◌<◌, ◌≤◌, ◌⊎◌, ◌+◌, ◌-◌, ◌*◌, ◌/◌, ◌%◌, ◌∙◌, sym, ap, subst, true, false, nat_le, nat_eq, ◌||◌, arith, refl, inl, inr, ⊎_elim}
use Rattle.std.proofs.Math.Nat.{lt_of_mul-lt-mul_right, div-add-mod, mul-mod_right}
use Rattle.std.proofs.lemmas.Bool.{cases_lt, cases_Bool, both_ways, or_cases, leb-true, eqb-true}
use Rattle.prta_mass.specs.declared.direction.Dir.TheVariants.{Up, Down}
use Rattle.prta_mass.specs.declared.support.Support.{Support}
use Rattle.prta_mass.specs.Support.{is_support}
use Rattle.prta_resample.specs.Resample.{support_below, support_above, read_place}
use Rattle.prta_resample.proofs.Places.{is_fine, is_multiple, is_last, below_point, below_between, below_low, below_rises, above_point, above_between, down_last, down_below}
use Rattle.prta_stair.specs.Moving.{MovesTo}

-- a support point of a list of so many cells
abbrev pub IsPoint : Support → ℕ → ℕ → Type 0
IsPoint s cap k = is_support s cap k ≡ true

-- no support point from a up to b - 1
abbrev pub Gap : Support → ℕ → ℕ → ℕ → Type 0
Gap s cap a b = (m : ℕ) → a ≤ m → m < b → IsPoint s cap m → ⊥

point_cases : (s : Support) (cap k : ℕ) → IsPoint s cap k → (k ≤ s.fine) ⊎ ((k % s.step ≡ 0) ⊎ (k ≡ cap - 1))
point_cases s cap k h = ⊎_elim
    (λ (e : nat_le k s.fine ≡ true). inl (leb-true k s.fine e))
    (λ (e : (nat_eq (k % s.step) 0 || nat_eq k (cap - 1)) ≡ true). ⊎_elim
    (λ (f : nat_eq (k % s.step) 0 ≡ true). inr (inl (eqb-true (k % s.step) 0 f)))
    (λ (f : nat_eq k (cap - 1) ≡ true). inr (inr (eqb-true k (cap - 1) f)))
    (or_cases (nat_eq (k % s.step) 0) (nat_eq k (cap - 1)) e))
    (or_cases (nat_le k s.fine) (nat_eq (k % s.step) 0 || nat_eq k (cap - 1)) h)

-- ---- the support points beside a place

module _ (s : Support) (cap : ℕ) where
  pub below_is_point : (k : ℕ) → IsPoint s cap (support_below s cap k)
  below_is_point zero = is_fine s cap 0 (omega arith)
  below_is_point (suc k) = elim (cases_Bool (is_support s cap (suc k))) [
    | inl here ↦ subst (IsPoint s cap) (sym (below_point s cap (suc k) here)) here
    | inr between ↦
        let e : k + 1 ≡ suc k = omega arith in
        let same : support_below s cap (suc k) ≡ support_below s cap k = ap (support_below s cap) (sym e) ∙ below_between s cap k (subst (λ n. is_support s cap n ≡ false) (sym e) between) in
        subst (IsPoint s cap) (sym same) (below_is_point k)
  ]

  -- the support point above is above, and the first one there
  abbrev IsAbove : ℕ → Type 0
  IsAbove k = (k < support_above s cap k) × (IsPoint s cap (support_above s cap k) × Gap s cap (k + 1) (support_above s cap k))

  above_here : (k : ℕ) → k + 1 < cap → IsPoint s cap (k + 1) → IsAbove k
  above_here k room here =
      let same : support_above s cap k ≡ k + 1 = above_point s cap k room here in
      (omega arith, (subst (IsPoint s cap) (sym same) here, λ n a b p. absurd (omega (arith, same, a, b))))

  above_is : (m k : ℕ) → k + 1 + m ≡ cap - 1 → IsAbove k
  above_is zero k h = above_here k (omega arith) (is_last s cap (k + 1) (omega arith))
  above_is (suc m) k h =
      let later : IsAbove (k + 1) = above_is m (k + 1) (omega arith) in
      elim (cases_Bool (is_support s cap (k + 1))) [
        | inl here ↦ above_here k (omega arith) here
        | inr between ↦
            let same : support_above s cap k ≡ support_above s cap (k + 1) = above_between s cap k (omega arith) between in (
              omega (arith, later.0, same),
              (
                subst (IsPoint s cap) (sym same) later.1.0,
                λ n a b p. ⊎_elim
                    (λ (first : n < k + 1 + 1). let e : n ≡ k + 1 = omega (arith, a, first) in both_ways (is_support s cap (k + 1)) between (subst (IsPoint s cap) e p))
                    (λ (past : k + 1 + 1 ≤ n). later.1.1 n past (omega (arith, b, same)) p)
                    (cases_lt n (k + 1 + 1)),
              ),
            )
      ]

  -- ---- the moves

  pub moves_up : (q g : ℕ) → q ≤ g → IsPoint s cap g → Gap s cap q g → MovesTo (read_place Up s cap) cap q g
  moves_up q g from point none = λ k within. (
    λ le. ⊎_elim
        (λ (lt : support_below s cap k < g). absurd (none (support_below s cap k) le lt (below_is_point k)))
        (λ (ge : g ≤ support_below s cap k). omega (arith, below_low s cap k))
        (cases_lt (support_below s cap k) g),
    λ le. omega (arith, below_rises s cap g k le, below_point s cap g point),
  )

  pub moves_down : (q g : ℕ) → q < cap → g ≤ q → IsPoint s cap g → Gap s cap (g + 1) (q + 1) → MovesTo (read_place Down s cap) cap q g
  moves_down q g room to point none = λ k within. ⊎_elim
      (λ (inside : k < cap - 1).
      let above : IsAbove k = above_is (cap - 1 - (k + 1)) k (omega arith) in
      let read : read_place Down s cap k ≡ support_above s cap k - 1 = down_below s cap k inside in (
        λ le. ⊎_elim (λ (lt : k < g). absurd (above.1.1 g (omega arith) (omega (arith, above.0, read, le, to)) point)) (λ (ge : g ≤ k). ge) (cases_lt k g),
        λ le. ⊎_elim
            (λ (lt : read_place Down s cap k < q). absurd (none (support_above s cap k) (omega (arith, above.0, le)) (omega (arith, above.0, read, lt)) above.1.0))
            (λ (ge : q ≤ read_place Down s cap k). ge)
            (cases_lt (read_place Down s cap k) q),
      ))
      (λ (end : cap - 1 ≤ k).
      let read : read_place Down s cap k ≡ k = down_last s cap k (omega arith) in
      (λ le. omega arith, λ le. omega (arith, read)))
      (cases_lt k (cap - 1))

-- ---- the closed forms

-- between two multiples there is none
no_multiple : (step q m : ℕ) → 0 < step → q / step * step < m → m < q / step * step + step → m % step ≢ 0
no_multiple step q m some low high e =
    let whole : step * (m / step) + m % step ≡ m = div-add-mod m step in
    let a : q / step * step < m / step * step = omega (arith, whole, e, low) in
    let b : m / step * step < (q / step + 1) * step = omega (arith, whole, e, high) in
    let c : q / step < m / step = lt_of_mul-lt-mul_right step a in
    let d : m / step < q / step + 1 = lt_of_mul-lt-mul_right step b in
    omega (arith, c, d)

-- a gap above fine, below the next multiple and below the last cell
gap_from : (s : Support) (cap q a b : ℕ) → 0 < s.step → s.fine < a → q / s.step * s.step < a → b ≤ q / s.step * s.step + s.step → b < cap → Gap s cap a b
gap_from s cap q a b some fine low high end m from below point = elim (point_cases s cap m point) [
  | inl le ↦ omega (arith, fine, from, le)
  | inr later ↦ elim later [
    | inl e ↦ no_multiple s.step q m some (omega (arith, low, from)) (omega (arith, below, high)) e
    | inr e ↦ omega (arith, below, end, e)
  ]
]

floor_is : (step q : ℕ) → q - q % step ≡ q / step * step
floor_is step q = let whole : step * (q / step) + q % step ≡ q = div-add-mod q step in omega (arith, whole)

multiple : (step n m : ℕ) → n ≡ m * step → n % step ≡ 0
multiple step n m e = ap (λ x. x % step) (let f : n ≡ step * m = omega (arith, e) in f) ∙ mul-mod_right step m

module _ (s : Support) (cap q : ℕ) (some : 0 < s.step) (room : q < cap) where
  f : q - q % s.step ≡ q / s.step * s.step
  f = floor_is s.step q

  whole : s.step * (q / s.step) + q % s.step ≡ q
  whole = div-add-mod q s.step

  pub up_own : IsPoint s cap q → MovesTo (read_place Up s cap) cap q q
  up_own point = moves_up s cap q q (omega arith) point (λ m a b p. omega (arith, a, b))

  pub down_own : IsPoint s cap q → MovesTo (read_place Down s cap) cap q q
  down_own point = moves_down s cap q q room (omega arith) point (λ m a b p. omega (arith, a, b))

  pub up_next : s.fine < q → q % s.step ≢ 0 → q - q % s.step + s.step < cap → MovesTo (read_place Up s cap) cap q (q - q % s.step + s.step)
  up_next fine rest inside =
      let below : q % s.step < s.step = omega (arith, some) in
      moves_up s cap q (q - q % s.step + s.step) (omega (arith, whole, below))
      (is_multiple s cap (q - q % s.step + s.step) (multiple s.step (q - q % s.step + s.step) (q / s.step + 1) (omega (arith, f))))
      (gap_from s cap q q (q - q % s.step + s.step) some fine (omega (arith, whole, rest)) (omega (arith, f)) inside)

  pub up_last : s.fine < q → q % s.step ≢ 0 → cap ≤ q - q % s.step + s.step → MovesTo (read_place Up s cap) cap q (cap - 1)
  up_last fine rest past =
      moves_up s cap q (cap - 1) (omega (arith, room)) (is_last s cap (cap - 1) refl)
      (gap_from s cap q q (cap - 1) some fine (omega (arith, whole, rest)) (omega (arith, f, past)) (omega (arith, room)))

  pub down_floor : s.fine < q - q % s.step → q + 1 < cap → MovesTo (read_place Down s cap) cap q (q - q % s.step)
  down_floor fine inside =
      let below : q % s.step < s.step = omega (arith, some) in
      moves_down s cap q (q - q % s.step) room (omega (arith, whole))
      (is_multiple s cap (q - q % s.step) (multiple s.step (q - q % s.step) (q / s.step) f))
      (gap_from s cap q (q - q % s.step + 1) (q + 1) some (omega (arith, fine)) (omega (arith, f)) (omega (arith, whole, below)) inside)

  pub down_fine : s.fine < q → q - q % s.step ≤ s.fine → q + 1 < cap → MovesTo (read_place Down s cap) cap q s.fine
  down_fine fine floor inside =
      let below : q % s.step < s.step = omega (arith, some) in
      moves_down s cap q s.fine room (omega (arith, fine)) (is_fine s cap s.fine (omega arith))
      (gap_from s cap q (s.fine + 1) (q + 1) some (omega arith) (omega (arith, f, floor)) (omega (arith, whole, below)) inside)
