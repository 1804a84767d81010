-- Worked values of limbs, of their sums, and of an addition that is done up to a place.
use Rattle.std.specs.Prelude.{◌≡◌, ℕ, true, false, List, [], ◌∷◌}
use Rattle.prta_mass.specs.Unit.{unit}
use Rattle.prta_mass.specs.Table.{Table}
use Rattle.prta_mass.specs.declared.direction.Dir.TheVariants.{Up, Down}
use Rattle.prta_convlane.specs.Limbs.{high_half, low_half, top_quarter, high_quarter, middle_quarter, low_quarter, limb_sum, joined}
use Rattle.prta_convlane.specs.Progress.{IsDone}

-- 1 tick in two of three cases, 2 ticks else
abbrev pub third : Table
third = (1, 2) ∷ (2, 1) ∷ []

-- 5 * 2^32 + 7 and the unit
abbrev pub start : List ℕ
start = 21474836487 ∷ unit ∷ unit ∷ []

pub record WorkedLimbs : Type 0 where
  pub unit_halves : (high_half unit ≡ 268435456) × (low_half unit ≡ 0)
  pub below_halves : (high_half 1152921504606846975 ≡ 268435455) × (low_half 1152921504606846975 ≡ 4294967295)
  pub unit_quarters : (top_quarter unit ≡ 32768) × (high_quarter unit ≡ 0) × (middle_quarter unit ≡ 0) × (low_quarter unit ≡ 0)
  pub below_quarters : (top_quarter 1152921504606846975 ≡ 32767) × (high_quarter 1152921504606846975 ≡ 32767) × (middle_quarter 1152921504606846975 ≡ 32767) × (low_quarter 1152921504606846975 ≡ 32767)
  pub joined_again : joined 1 2 3 4 ≡ 35186519670788
  pub high_sum : limb_sum high_half third start 2 ≡ 536870917
  pub low_sum : limb_sum low_half third start 2 ≡ 7
  pub nothing_before : limb_sum low_half third start 0 ≡ 0
  pub not_rounded : IsDone Up third (100 ∷ 301 ∷ 900 ∷ []) (0 ∷ 9 ∷ []) 1 false
  pub rounded : IsDone Down third (100 ∷ 301 ∷ 900 ∷ []) (0 ∷ 67 ∷ 9 ∷ []) 2 true
