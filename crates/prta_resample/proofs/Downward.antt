-- Re-sampling in Down: from the last cell backwards, the value just before the next support point is held.
use Rattle.std.proofs.Common.{◌≡◌, ℕ, ◌+◌, ◌-◌, ◌%◌, ◌<◌, ◌≤◌, max, true, false, inl, inr, List, length, get_or, set, ap, sym, ◌∙◌, arith, ⊎_elim, subst}
use Rattle.std.specs.List.Sorted.{IsNonDecreasing}
use Rattle.std.proofs.lemmas.List.{get_or_default}
use Rattle.std.proofs.lemmas.Bool.{cases_lt}
use Rattle.prta_mass.specs.declared.direction.Dir.TheVariants.{Down}
use Rattle.prta_mass.specs.declared.support.Support.{Support}
use Rattle.prta_mass.specs.Chances.{at, last}
use Rattle.prta_mass.specs.Support.{is_support}
use Rattle.prta_resample.specs.Resample.{support_above, read_place, resampled, moved_amount}
use Rattle.prta_resample.proofs.Places.{is_fine, is_multiple, is_between, is_last, above_point, above_between, down_below, read_last, read_low, read_safe}
use Rattle.prta_resample.proofs.Moving.{Stand, stand_first, stand_stays, stand_moves, stand_last}

-- the cells from k on are done, and `held` is the value of the first of them
pub record DownTo (s : Support) (old cells : List ℕ) (k held moved : ℕ) : Type 0 where
  pub value : held ≡ at old (read_place Down s (length old) k)
  pub stand : Stand (read_place Down s (length old)) old cells moved (λ i. k ≤ i) (λ i. i < k)

module _ (s : Support) (old : List ℕ) where
  -- the place before a support point is read for itself, and another one as the place after it
  before_point : (k : ℕ) → 0 < k → k < length old - 1 → k % s.step ≡ 0 → read_place Down s (length old) (k - 1) ≡ k - 1
  before_point k some low multiple =
      let f : k ≡ k - 1 + 1 = omega arith in
      let e = above_point s (length old) (k - 1) (omega arith) (subst (λ n. is_support s (length old) n ≡ true) f (is_multiple s (length old) k multiple)) in
      down_below s (length old) (k - 1) (omega arith) ∙ omega (arith, e)

  before_between : (k : ℕ) → 0 < k → k < length old - 1 → s.fine < k → (k % s.step ≡ 0 → ⊥) → read_place Down s (length old) (k - 1) ≡ read_place Down s (length old) k
  before_between k some low coarse between =
      let f : k ≡ k - 1 + 1 = omega arith in
      let e = above_between s (length old) (k - 1) (omega arith) (subst (λ n. is_support s (length old) n ≡ false) f (is_between s (length old) k coarse between (λ h. omega arith))) in
      let g = ap (support_above s (length old)) f in
      down_below s (length old) (k - 1) (omega arith) ∙ omega (arith, e, g) ∙ sym (down_below s (length old) k low)

  -- the two last cells stay
  ends : (i : ℕ) → length old - 1 - 1 ≤ i → i < length old → read_place Down s (length old) i ≡ i
  ends i far low = ⊎_elim
      (λ (l : i < length old - 1). let e = above_point s (length old) i (omega arith) (is_last s (length old) (i + 1) (omega arith)) in down_below s (length old) i l ∙ omega (arith, e))
      (λ (l : length old - 1 ≤ i). read_last s (length old) Down i (omega arith))
      (cases_lt i (length old - 1))

  pub down_first : (k : ℕ) → k ≡ length old - 1 - 1 → 0 < length old → DownTo s old old k (get_or old k 0) 0
  down_first k is some = record {
    value = get_or_default old k 0 (last old) (omega arith) ∙ ap (at old) (sym (ends k (omega arith) (omega arith)));
    stand = stand_first (read_place Down s (length old)) old (λ i. k ≤ i) (λ i. i < k) (λ i l d. ends i (omega arith) l);
  }

  module _ (cells : List ℕ) (k held moved : ℕ) (size : length cells ≡ length old) (so_far : DownTo s old cells k held moved) where
    -- what is held is at least the cell before
    pub down_above : IsNonDecreasing old → 0 < k → k < length old → get_or cells (k - 1) 0 ≤ held
    down_above rising some low =
        let p : ℕ = read_place Down s (length old) k in
        let a : k ≤ p = read_safe s (length old) Down k in
        let b : at old (k - 1) ≤ at old p = rising (k - 1) p (last old) (omega arith) (read_low s (length old) Down k low) in
        let c = so_far.stand.kept (k - 1) (omega arith) (omega arith) in
        omega (arith, b, c, so_far.value)

    -- the place before a support point stays
    pub down_stays : 0 < k → k < length old - 1 → k % s.step ≡ 0 → DownTo s old cells (k - 1) (get_or cells (k - 1) 0) moved
    down_stays some low multiple =
        let p : ℕ → ℕ = read_place Down s (length old) in
        let e : p (k - 1) ≡ k - 1 = before_point k some low multiple in
        record {
          value = so_far.stand.kept (k - 1) (omega arith) (omega arith) ∙ ap (at old) (sym e);
          stand = stand_stays p old (λ i. k ≤ i) (λ i. i < k) cells moved so_far.stand (λ i. k - 1 ≤ i) (λ i. i < k - 1) (k - 1)
              (λ i d. ⊎_elim (λ (l : i < k). inr (omega arith)) (λ (l : k ≤ i). inl l) (cases_lt i k)) (λ i d. (omega arith, λ e. omega arith)) e (omega arith);
        }

    -- another place gets what is held
    pub down_moves : IsNonDecreasing old → 0 < k → k < length old - 1 → s.fine < k → (k % s.step ≡ 0 → ⊥) → (m : ℕ) → m ≡ max moved (held - get_or cells (k - 1) 0) →
        DownTo s old (set cells (k - 1) held) (k - 1) held m
    down_moves rising some low coarse between m is =
        let p : ℕ → ℕ = read_place Down s (length old) in
        let e : p (k - 1) ≡ p k = before_between k some low coarse between in
        let above = down_above rising some (omega arith) in
        let here = so_far.stand.kept (k - 1) (omega arith) (omega arith) in
        record {
          value = so_far.value ∙ ap (at old) (sym e);
          stand = stand_moves p old (λ i. k ≤ i) (λ i. i < k) cells moved so_far.stand (λ i. k - 1 ≤ i) (λ i. i < k - 1) (k - 1)
              (λ i d. ⊎_elim (λ (l : i < k). inr (omega arith)) (λ (l : k ≤ i). inl l) (cases_lt i k)) (λ i d. (omega arith, λ e. omega arith))
              held m size (omega arith) (so_far.value ∙ ap (at old) (sym e)) (omega (arith, is, above, here));
        }

    -- each place up to `fine` stands before a support point or is the last cell
    pub down_last : k ≤ s.fine → (cells ≡ resampled Down s old) × (moved ≡ moved_amount old cells)
    down_last near = stand_last (read_place Down s (length old)) old (λ i. k ≤ i) (λ i. i < k) cells moved so_far.stand size
        (λ i l. ⊎_elim (λ (d : i < k). inr (d, stays i l d)) (λ (d : k ≤ i). inl d) (cases_lt i k))
      where
        stays : (i : ℕ) → i < length old → i < k → read_place Down s (length old) i ≡ i
        stays i l d = ⊎_elim
            (λ (m : i < length old - 1). let e = above_point s (length old) i (omega arith) (is_fine s (length old) (i + 1) (omega arith)) in down_below s (length old) i m ∙ omega (arith, e))
            (λ (m : length old - 1 ≤ i). read_last s (length old) Down i (omega arith))
            (cases_lt i (length old - 1))
