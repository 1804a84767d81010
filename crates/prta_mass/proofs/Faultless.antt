-- Pairs that make a table of at most so many points have no fault.
use Rattle.std.proofs.Common.{◌≡◌, ℕ, ◌+◌, ◌-◌, ◌<◌, ◌≤◌, Bool, false, nat_lt, nat_eq, Option, None, option_map, position, List, [], ◌∷◌, length, All, refl, le_refl, arith}
use Rattle.std.specs.List.{position_or_len}
use Rattle.std.proofs.lemmas.Bool.{le-ltb, lt-leb}
use Rattle.std.proofs.lemmas.Bool.Decides.{nat_tests}
use Rattle.std.proofs.lemmas.List.{length-map, get_or-map}
use Rattle.std.proofs.lemmas.List.Sums.{position_or_len_is}
use Rattle.prta_mass.specs.Table.{Table, IsTableWithin, times, falls_at, or_else, when, fault_within}
use Rattle.prta_mass.specs.declared.table.TableFault.TheVariants.{Empty, TooManyPoints, ZeroTime, NotIncreasing, ZeroWeight, TotalTooLarge}
use Rattle.prta_mass.proofs.Find.{find_none_in_range}

module _ {X : Type 0} where
  both_none : (a b : Option X) → a ≡ None → b ≡ None → or_else a b ≡ None
  both_none a b e f = rw (e, f)

  when_false : (b : Bool) (x : X) → b ≡ false → when b x ≡ None
  when_false b x e = rw e

  none_mapped : {Y : Type 0} (f : X → Y) (o : Option X) → o ≡ None → option_map f o ≡ None
  none_mapped f o e = rw e

  no_position : (p : X → Bool) (xs : List X) → All (λ x. p x ≡ false) xs → position p xs ≡ None
  no_position p [] h = refl
  no_position p (x ∷ xs) h =
      let past : position_or_len p (x ∷ xs) ≡ length (x ∷ xs) = position_or_len_is p (x ∷ xs) (length (x ∷ xs)) x (le_refl _) (λ k low. h k x low) (λ low. absurd (omega arith)) in
      let none : nat_lt (position_or_len p (x ∷ xs)) (length (x ∷ xs)) ≡ false = grind (arith, nat_tests) in
      rw none refl

pub no_table_fault : (most : ℕ) (pairs : Table) → IsTableWithin most pairs → fault_within most pairs ≡ None
no_table_fault most pairs is =
    let n : ℕ = length pairs in
    both_none _ _
    (both_none (when (nat_eq n 0) Empty) _ (when_false _ _ (let some = is.some in grind (arith, nat_tests)))
    (both_none (when (nat_lt most n) (TooManyPoints n)) _ (when_false _ _ (le-ltb _ _ is.few))
    (both_none _ _ (none_mapped ZeroTime _ (no_position (λ (pair : ℕ × ℕ). nat_eq pair.0 0) pairs (λ k d low. let some = is.positive_times k d low in grind (arith, nat_tests))))
    (both_none _ _ (none_mapped NotIncreasing _ (find_none_in_range (falls_at pairs) 1 (n - 1) rises))
    (none_mapped ZeroWeight _ (no_position (λ (pair : ℕ × ℕ). nat_eq pair.1 0) pairs (λ k d low. let some = is.positive_weights k d low in grind (arith, nat_tests))))))))
    (when_false _ TotalTooLarge (le-ltb _ _ is.limited))
  where
    rises : (k : ℕ) → 1 ≤ k → k < 1 + (length pairs - 1) → falls_at pairs k ≡ false
    rises k low high =
        let time : ℕ × ℕ → ℕ = λ pair. pair.0 in
        let size : length (times pairs) ≡ length pairs = length-map pairs time in
        let up = is.increasing (k - 1) (omega arith) in
        let next : k - 1 + 1 ≡ k = omega arith in
        let here = get_or-map time pairs k (0, 0) 0 (omega arith) in
        let before = get_or-map time pairs (k - 1) (0, 0) 0 (omega arith) in
        let less = rw next at up in
        lt-leb _ _ (rw (here, before) at less)
