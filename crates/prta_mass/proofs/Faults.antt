-- Pairs with no fault make a table of at most so many points.
use Rattle.std.proofs.Common.{◌≡◌, ℕ, ◌+◌, ◌-◌, ◌<◌, Bool, true, false, Option, Some, None, List, length, All, nat_eq, nat_lt, position, option_map, arith, refl}
use Rattle.std.specs.List.Sorted.{IsStrictlyIncreasing}
use Rattle.std.proofs.lemmas.Bool.Decides.{nat_tests}
use Rattle.std.proofs.lemmas.List.Sums.{fails_before_first}
use Rattle.std.proofs.lemmas.List.{length-map, get_or-map}
use Rattle.prta_mass.specs.declared.table.TheConstants.{TOTAL_LIMIT}
use Rattle.prta_mass.specs.declared.table.TableFault.TheVariants.{Empty, TooManyPoints, ZeroTime, NotIncreasing, ZeroWeight, TotalTooLarge}
use Rattle.prta_mass.specs.Table.{Table, IsTableWithin, shape_within, fault_within, or_else, when, times, falls_at, not_increasing, zero_time, zero_weight, total}
use Rattle.prta_mass.proofs.Find.{fails_in_range}
use Rattle.prta_mass.proofs.Totals.{total_positive}

first_none : {X : Type 0} (a b : Option X) → or_else a b ≡ None → a ≡ None
first_none None b h = refl
first_none (Some x) b h = h

next_none : {X : Type 0} (a b : Option X) → or_else a b ≡ None → b ≡ None
next_none None b h = h
next_none (Some x) b h = cc

five_none : {X : Type 0} (a b c d e : Option X) → or_else a (or_else b (or_else c (or_else d e))) ≡ None → (a ≡ None) × (b ≡ None) × (c ≡ None) × (d ≡ None) × (e ≡ None)
five_none a b c d e h =
    let g = next_none a (or_else b (or_else c (or_else d e))) h in
    let i = next_none b (or_else c (or_else d e)) g in
    let j = next_none c (or_else d e) i in
    (first_none a _ h, first_none b _ g, first_none c _ i, first_none d _ j, next_none d e j)

when_none : {X : Type 0} (b : Bool) (x : X) → when b x ≡ None → b ≡ false
when_none true x h = cc
when_none false x h = refl

map_none : {X Y : Type 0} (f : X → Y) (o : Option X) → option_map f o ≡ None → o ≡ None
map_none f None h = refl
map_none f (Some x) h = cc

-- where no place passes, each element fails
position_none : {X : Type 0} (p : X → Bool) (xs : List X) → position p xs ≡ None → All (λ x. p x ≡ false) xs
position_none p xs h = λ k d low. fails_before_first p xs k d (grind (arith, nat_tests))

-- the times rise where no place falls
rising : (pairs : Table) → not_increasing pairs ≡ None → IsStrictlyIncreasing (times pairs)
rising pairs h = λ k low.
    let first : ℕ × ℕ → ℕ = λ pair. pair.0 in
    let long : length (times pairs) ≡ length pairs = length-map pairs first in
    let fails = fails_in_range (falls_at pairs) 1 (length pairs - 1) (k + 1) h (omega arith) (omega arith) in
    let before : k + 1 - 1 ≡ k = omega arith in
    let above = rw before at fails in
    let here = get_or-map first pairs k (0, 0) 0 (omega arith) in
    let next = get_or-map first pairs (k + 1) (0, 0) 0 (omega arith) in
    rw (here, next) (grind (arith, nat_tests))

pub IsTable-from_none : (most : ℕ) (pairs : Table) → fault_within most pairs ≡ None → IsTableWithin most pairs
IsTable-from_none most pairs h =
    let n : ℕ = length pairs in
    let shape = first_none (shape_within most pairs) (when (nat_lt TOTAL_LIMIT (total pairs)) TotalTooLarge) h in
    let none = five_none (when (nat_eq n 0) Empty) (when (nat_lt most n) (TooManyPoints n)) (option_map ZeroTime (zero_time pairs)) (option_map NotIncreasing (not_increasing pairs))
    (option_map ZeroWeight (zero_weight pairs)) shape in
    let some : nat_eq n 0 ≡ false = when_none _ Empty none.0 in
    let few : nat_lt most n ≡ false = when_none _ (TooManyPoints n) none.1 in
    let limited : nat_lt TOTAL_LIMIT (total pairs) ≡ false = when_none _ TotalTooLarge (next_none (shape_within most pairs) (when (nat_lt TOTAL_LIMIT (total pairs)) TotalTooLarge) h) in
    let times_pass = position_none (λ (pair : ℕ × ℕ). nat_eq pair.0 0) pairs (map_none ZeroTime _ none.2) in
    let weights_pass = position_none (λ (pair : ℕ × ℕ). nat_eq pair.1 0) pairs (map_none ZeroWeight _ none.4) in
    let there : 0 < length pairs = grind (arith, nat_tests) in
    let weigh : All (λ pair. 0 < pair.1) pairs = λ k d low. let fails = weights_pass k d low in grind (arith, nat_tests) in
    record {
      some = there;
      few = grind (arith, nat_tests);
      positive_times = λ k d low. let fails = times_pass k d low in grind (arith, nat_tests);
      increasing = rising pairs (map_none NotIncreasing _ none.3);
      positive_weights = weigh;
      weighs = total_positive pairs there weigh;
      limited = grind (arith, nat_tests);
    }
