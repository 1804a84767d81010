-- Laws of sums by limbs.
use Rattle.std.specs.Prelude.{◌≡◌, ℕ, ◌+◌, ◌*◌, ◌^◌, List}
use Rattle.prta_mass.specs.Table.{Table}
use Rattle.prta_dist.specs.Addition.{weighted}
use Rattle.prta_convlane.specs.Limbs.{high_half, low_half, top_quarter, high_quarter, middle_quarter, low_quarter, limb_sum, joined}

-- the sums of all limbs, each at its place, are the weighted sum
pub record LimbsJoin : Type 0 where
  pub halves : (table : Table) (cells : List ℕ) (k : ℕ) → limb_sum high_half table cells k * 2 ^ 32 + limb_sum low_half table cells k ≡ weighted table cells k
  pub quarters : (table : Table) (cells : List ℕ) (k : ℕ) → joined (limb_sum top_quarter table cells k) (limb_sum high_quarter table cells k) (limb_sum middle_quarter table cells k) (limb_sum low_quarter table cells k) ≡ weighted table cells k
