use Rattle.std.proofs.Common.{◌≡◌, ℕ, ◌+◌, ◌<◌, slice_index, take}
use Rattle.prta_convlane.specs.Limbs.{top_quarter, high_quarter, middle_quarter, low_quarter, limb_sum}
use Rattle.prta_convlane.proofs.quarters.quarter_sums.Given as goal

-- the sums over the pairs so far
abbrev pub invariant-loop-point : goal.invariant-loop-point
invariant-loop-point l = record {
  top_is : (j : ℕ) → j < 8 → slice_index l.sums.0 j ≡ limb_sum top_quarter (take l.point-index l.points) l.from (l.k + j);
  high_is : (j : ℕ) → j < 8 → slice_index l.sums.1 j ≡ limb_sum high_quarter (take l.point-index l.points) l.from (l.k + j);
  middle_is : (j : ℕ) → j < 8 → slice_index l.sums.2 j ≡ limb_sum middle_quarter (take l.point-index l.points) l.from (l.k + j);
  low_is : (j : ℕ) → j < 8 → slice_index l.sums.3 j ≡ limb_sum low_quarter (take l.point-index l.points) l.from (l.k + j);
}
