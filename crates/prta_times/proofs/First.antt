-- The first place that passes a test.
use Rattle.std.proofs.Common.{◌≡◌, ℕ, ◌<◌, Bool, true, false, nat_lt, Some, List, length, get_or, position, ap, arith}
use Rattle.std.specs.List.{position_or_len}
use Rattle.std.proofs.lemmas.Bool.{lt-ltb}
use Rattle.std.proofs.lemmas.List.Sums.{position_or_len_is}

-- the first place that passes, where none before does
pub first_at : {X : Type 0} (p : X → Bool) (xs : List X) (i : ℕ) (d : X) → i < length xs → ((k : ℕ) → k < i → p (get_or xs k d) ≡ false) → p (get_or xs i d) ≡ true → position p xs ≡ Some i
first_at p xs i d low before here =
    let at : position_or_len p xs ≡ i = position_or_len_is p xs i d (omega arith) before (λ l. here) in
    let some : nat_lt (position_or_len p xs) (length xs) ≡ true = lt-ltb _ _ (omega (arith, at)) in
    rw some (ap Some at)
