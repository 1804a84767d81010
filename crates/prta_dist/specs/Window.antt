-- The window of a list of chances: the places where its values change.
use Rattle.std.specs.Prelude.{◌≡◌, ℕ, ◌+◌, ◌<◌, ◌≤◌, min, List, ◌++◌, length, take, drop}
use Rattle.std.specs.List.{slice_range}
use Rattle.prta_mass.specs.Table.{Table, IsTable, greatest}
use Rattle.prta_mass.specs.Chances.{at, last}
use Rattle.prta_mass.specs.declared.direction.Dir.{Dir}
use Rattle.prta_dist.specs.Addition.{cells_added, is_rounded}

-- the cells below lo are 0, and from hi on all have the last cell's value
pub record IsWindow (cells : List ℕ) (lo hi : ℕ) : Type 0 where
  pub ordered : lo ≤ hi
  pub inside : hi < length cells
  pub zero_below : (k : ℕ) → k < lo → at cells k ≡ 0
  pub still_above : (k : ℕ) → hi ≤ k → at cells k ≡ last cells

-- from here on the addition of a table changes no cell
abbrev pub window_end : Table → List ℕ → ℕ → ℕ
window_end table cells hi = min (hi + greatest table) (length cells)

-- a list with the cells from lo to the end replaced by those after an addition to them alone
abbrev pub added_inside : Dir → Table → List ℕ → ℕ → ℕ → List ℕ
added_inside dir table cells lo end = take lo cells ++ (cells_added dir table (slice_range cells lo end) ++ drop end cells)

-- adding to the window alone is adding to the whole list, with the same answer on rounding
pub record WindowAdds (dir : Dir) (table : Table) (cells : List ℕ) (lo end : ℕ) : Type 0 where
  pub whole_list : added_inside dir table cells lo end ≡ cells_added dir table cells
  pub rounded : is_rounded table (slice_range cells lo end) ≡ is_rounded table cells

abbrev pub WindowsAdd : Type 0
WindowsAdd = (dir : Dir) (table : Table) (cells : List ℕ) (lo hi : ℕ) → IsTable table → IsWindow cells lo hi → WindowAdds dir table cells lo (window_end table cells hi)
