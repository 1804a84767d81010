use Rattle.std.proofs.Common.{◌≡◌, ℕ, ◌+◌, ◌<◌, slice_index, take}
use Rattle.prta_convlane.specs.Limbs.{high_half, low_half, limb_sum}
use Rattle.prta_convlane.proofs.halves.half_sums.Given as goal

-- the sums over the pairs so far
abbrev pub invariant-loop-point : goal.invariant-loop-point
invariant-loop-point l = record {
  high_is : (j : ℕ) → j < 8 → slice_index l.high j ≡ limb_sum high_half (take l.point-index l.points) l.from (l.k + j);
  low_is : (j : ℕ) → j < 8 → slice_index l.low j ≡ limb_sum low_half (take l.point-index l.points) l.from (l.k + j);
}
