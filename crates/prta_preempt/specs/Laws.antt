-- Laws of the delay.
use Rattle.std.specs.Prelude.{◌≡◌, ℕ, ◌<◌, ◌≤◌, List, length}
use Rattle.prta_mass.specs.Table.{Table, IsTable}
use Rattle.prta_mass.specs.Chances.{at, IsChances}
use Rattle.prta_mass.specs.declared.direction.Dir.{Dir}
use Rattle.prta_dist.specs.Addition.{cells_added, is_rounded}
use Rattle.prta_preempt.specs.Delay.{delayed, is_delay_rounded, tail_above, merged}

-- the addition to the tail, merged again, is the delay, and rounds where the delay does
pub record SplitDelay (dir : Dir) (table : Table) (d : ℕ) (cells : List ℕ) : Type 0 where
  pub digits : merged d cells (cells_added dir table (tail_above d cells)) ≡ delayed dir table d cells
  pub rounded : is_rounded table (tail_above d cells) ≡ is_delay_rounded table d cells

abbrev pub DelaysBySplitting : Type 0
DelaysBySplitting = (dir : Dir) (table : Table) (d : ℕ) (cells : List ℕ) → IsTable table → IsChances cells → d < length cells → SplitDelay dir table d cells

-- what a delayed list keeps of a list of chances
pub record KeptByDelay (d : ℕ) (before after : List ℕ) : Type 0 where
  pub chances : IsChances after
  pub size : length after ≡ length before
  pub early : (k : ℕ) → k ≤ d → at after k ≡ at before k
  pub falls : (k : ℕ) → k < length before → at after k ≤ at before k

abbrev pub DelaysKeepChances : Type 0
DelaysKeepChances = (dir : Dir) (table : Table) (d : ℕ) (cells : List ℕ) → IsTable table → IsChances cells → d < length cells → KeptByDelay d cells (delayed dir table d cells)
