-- Operators on vectors of eight lanes with the same number in each, lane by lane.
use Rattle.std.proofs.Common.{◌≡◌, ℕ, ◌-◌, ◌%◌, ◌^◌, ◌<◌, List, length, get_or, replicate, bit_and, ap, ◌∙◌, arith}
use Rattle.std.specs.Simd.Lanes.{zip2}
use Rattle.std.proofs.lemmas.List.{length-replicate, get_or-replicate}
use Rattle.std.proofs.lemmas.Nat.{and_mask}
use Rattle.std.proofs.lemmas.Simd.{get_or-zip2}

pub lane_with : (f : ℕ → ℕ → ℕ) (x : List ℕ) (n j : ℕ) → length x ≡ 8 → j < 8 → get_or (zip2 f x (replicate 8 n)) j 0 ≡ f (get_or x j 0) n
lane_with f x n j eight below =
    get_or-zip2 f x (replicate 8 n) j 0 0 0 (omega arith) (omega (arith, length-replicate 8 n)) ∙ ap (f (get_or x j 0)) (get_or-replicate 8 j n 0 below)

pub lane_masked : (bits : ℕ) (x : List ℕ) (j : ℕ) → length x ≡ 8 → j < 8 → get_or (zip2 bit_and x (replicate 8 (2 ^ bits - 1))) j 0 ≡ get_or x j 0 % 2 ^ bits
lane_masked bits x j eight below = lane_with bit_and x (2 ^ bits - 1) j eight below ∙ and_mask (get_or x j 0) bits
