-- Tables with ticks added to each time.
use Rattle.std.specs.Prelude.{◌≡◌, ℕ, ◌+◌, ◌<◌, map, length}
use Rattle.prta_mass.specs.Table.{Table, total, times, greatest, IsTable}

-- s ticks added to each time; the weights stay
abbrev pub with_added : Table → ℕ → Table
with_added pairs s = map (λ pair. (pair.0 + s, pair.1)) pairs

-- a table that is the base with some number added to each time
abbrev pub IsWithAdded : Table → Table → Type 0
IsWithAdded base table = (r : ℕ) × (table ≡ with_added base r)

-- what added ticks change, and what not
pub record AddedTables : Type 0 where
  pub none : (table : Table) → with_added table 0 ≡ table
  pub twice : (table : Table) (r s : ℕ) → with_added (with_added table r) s ≡ with_added table (r + s)
  pub points : (table : Table) (s : ℕ) → length (with_added table s) ≡ length table
  pub weights : (table : Table) (s : ℕ) → total (with_added table s) ≡ total table
  pub each_time : (table : Table) (s : ℕ) → times (with_added table s) ≡ map (λ time. time + s) (times table)
  pub greatest_time : (table : Table) (s : ℕ) → 0 < length table → greatest (with_added table s) ≡ greatest table + s
  pub makes : (table : Table) (s : ℕ) → IsTable table → IsTable (with_added table s)
