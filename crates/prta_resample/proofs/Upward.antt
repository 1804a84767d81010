-- Re-sampling in Up: from the first cell on, the value at the last support point is held.
use Rattle.std.proofs.Common.{◌≡◌, ℕ, ◌+◌, ◌-◌, ◌%◌, ◌<◌, ◌≤◌, min, max, inl, inr, List, length, get_or, set, ap, sym, ◌∙◌, arith, ⊎_elim}
use Rattle.std.specs.List.Sorted.{IsNonDecreasing}
use Rattle.std.proofs.lemmas.List.{get_or_default}
use Rattle.std.proofs.lemmas.Bool.{cases_lt}
use Rattle.prta_mass.specs.declared.direction.Dir.TheVariants.{Up}
use Rattle.prta_mass.specs.declared.support.Support.{Support}
use Rattle.prta_mass.specs.Chances.{at, last}
use Rattle.prta_resample.specs.Resample.{support_below, resampled, moved_amount}
use Rattle.prta_resample.proofs.Places.{is_fine, is_multiple, is_between, below_point, below_between, below_low, read_last}
use Rattle.prta_resample.proofs.Moving.{Stand, stand_first, stand_stays, stand_moves, stand_last}

-- the cells before k are done, and `held` is the value of the last of them
pub record UpTo (s : Support) (old cells : List ℕ) (k held moved : ℕ) : Type 0 where
  pub value : held ≡ at old (support_below s (length old) (k - 1))
  pub stand : Stand (support_below s (length old)) old cells moved (λ i. i < k) (λ i. k ≤ i)

module _ (s : Support) (old : List ℕ) where
  pub up_first : (first : ℕ) → first ≡ min s.fine (length old - 1) → 0 < length old → UpTo s old old (first + 1) (get_or old first 0) 0
  up_first first is some =
      let p : ℕ → ℕ = support_below s (length old) in
      let e : p (first + 1 - 1) ≡ first = (let f : first + 1 - 1 ≡ first = omega arith in ap p f) ∙ below_point s (length old) first (is_fine s (length old) first (omega arith)) in
      record {
        value = get_or_default old first 0 (last old) (omega arith) ∙ ap (at old) (sym e);
        stand = stand_first p old (λ i. i < first + 1) (λ i. first + 1 ≤ i) (λ i l d. below_point s (length old) i (is_fine s (length old) i (omega arith)));
      }

  module _ (cells : List ℕ) (k held moved : ℕ) (size : length cells ≡ length old) (so_far : UpTo s old cells k held moved) where
    -- what is held is at most the next cell
    pub up_below : IsNonDecreasing old → k < length old → held ≤ get_or cells k 0
    up_below rising low =
        let p : ℕ = support_below s (length old) (k - 1) in
        let a : p ≤ k - 1 = below_low s (length old) (k - 1) in
        let b : at old p ≤ at old k = rising p k (last old) (omega arith) low in
        let c = so_far.stand.kept k low (omega arith) in
        omega (arith, b, c, so_far.value)

    -- a support point stays
    pub up_stays : k < length old → k % s.step ≡ 0 → UpTo s old cells (k + 1) (get_or cells k 0) moved
    up_stays low multiple =
        let p : ℕ → ℕ = support_below s (length old) in
        let e : p k ≡ k = below_point s (length old) k (is_multiple s (length old) k multiple) in
        let f : k + 1 - 1 ≡ k = omega arith in
        record {
          value = so_far.stand.kept k low (omega arith) ∙ ap (at old) (sym (ap p f ∙ e));
          stand = stand_stays p old (λ i. i < k) (λ i. k ≤ i) cells moved so_far.stand (λ i. i < k + 1) (λ i. k + 1 ≤ i) k
              (λ i d. ⊎_elim (λ (l : i < k). inl l) (λ (l : k ≤ i). inr (omega arith)) (cases_lt i k)) (λ i d. (omega arith, λ e. omega arith)) e (omega arith);
        }

    -- another place gets what is held
    pub up_moves : IsNonDecreasing old → 0 < k → k < length old - 1 → s.fine < k → (k % s.step ≡ 0 → ⊥) → (m : ℕ) → m ≡ max moved (get_or cells k 0 - held) → UpTo s old (set cells k held) (k + 1) held m
    up_moves rising some low coarse between m is =
        let p : ℕ → ℕ = support_below s (length old) in
        let f : k - 1 + 1 ≡ k = omega arith in
        let g : k + 1 - 1 ≡ k = omega arith in
        let e : p k ≡ p (k - 1) = ap p (sym f) ∙ below_between s (length old) (k - 1) (is_between s (length old) (k - 1 + 1) (omega arith) (rw f between) (λ h. omega arith)) in
        let below = up_below rising (omega arith) in
        let here = so_far.stand.kept k (omega arith) (omega arith) in
        record {
          value = so_far.value ∙ ap (at old) (sym (ap p g ∙ e));
          stand = stand_moves p old (λ i. i < k) (λ i. k ≤ i) cells moved so_far.stand (λ i. i < k + 1) (λ i. k + 1 ≤ i) k
              (λ i d. ⊎_elim (λ (l : i < k). inl l) (λ (l : k ≤ i). inr (omega arith)) (cases_lt i k)) (λ i d. (omega arith, λ e. omega arith))
              held m size (omega arith) (so_far.value ∙ ap (at old) (sym e)) (omega (arith, is, below, here));
        }

    -- the last cell stays
    pub up_last : length old - 1 ≤ k → (cells ≡ resampled Up s old) × (moved ≡ moved_amount old cells)
    up_last far = stand_last (support_below s (length old)) old (λ i. i < k) (λ i. k ≤ i) cells moved so_far.stand size
        (λ i l. ⊎_elim (λ (d : i < k). inl d) (λ (d : k ≤ i). inr (d, read_last s (length old) Up i (omega arith))) (cases_lt i k))
