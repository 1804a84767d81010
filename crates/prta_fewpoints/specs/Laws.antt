-- What holds of reductions, without code.
use Rattle.std.specs.Prelude.{◌≡◌, ℕ, ◌*◌, ◌<◌, ◌≤◌, List, sum_by, All, Contains}
use Rattle.prta_mass.specs.Table.{Table, IsTable, times, total, greatest}
use Rattle.prta_mass.specs.declared.table.TheConstants.{POINT_LIMIT}
use Rattle.prta_fewpoints.specs.Wide.{IsWide}
use Rattle.prta_fewpoints.specs.Choices.{IsChoice, IsReduction, merged}
use Rattle.prta_fewpoints.specs.Recursion.{reduced}

-- the reduction is what the recursion gives, and nothing else
pub record IsOneReduction (wide : Table) (k : ℕ) : Type 0 where
  pub is : IsReduction wide k (reduced wide k)
  pub only : (other : Table) → IsReduction wide k other → other ≡ reduced wide k

abbrev pub ReductionIsOne : Type 0
ReductionIsOne = (wide : Table) (k : ℕ) → IsWide wide → 0 < k → IsOneReduction wide k

-- a reduction to few enough points is a time table
abbrev pub ReductionIsTable : Type 0
ReductionIsTable = (wide : Table) (k : ℕ) → IsWide wide → 0 < k → k ≤ POINT_LIMIT → IsTable (reduced wide k)

-- Each weight of the first table goes to a time of the second that isn't below its own, and the second has just the weights
-- that go to its times: whatever a time is worth, both weigh the same.
pub record IsMovedUp (early late : Table) : Type 0 where
  pub to : ℕ → ℕ
  pub up : All (λ pair. pair.0 ≤ to pair.0) early
  pub lands : All (λ pair. Contains (times late) (to pair.0)) early
  pub weights : (worth : ℕ → ℕ) → sum_by (λ pair. pair.1 * worth pair.0) late ≡ sum_by (λ pair. pair.1 * worth (to pair.0)) early

-- a table that takes the place of another on the safe side
pub record IsSafeFor (wide table : Table) : Type 0 where
  pub moved : IsMovedUp wide table
  pub same_total : total table ≡ total wide
  pub same_greatest : greatest table ≡ greatest wide

-- the table of every choice is that
abbrev pub ChoicesAreSafe : Type 0
ChoicesAreSafe = (wide : Table) (k : ℕ) (chosen : List ℕ) → IsWide wide → IsChoice wide k chosen → IsSafeFor wide (merged chosen wide)

-- and so is the reduction
abbrev pub ReductionIsSafe : Type 0
ReductionIsSafe = (wide : Table) (k : ℕ) → IsWide wide → 0 < k → IsSafeFor wide (reduced wide k)
