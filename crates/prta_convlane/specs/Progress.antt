-- An addition that is done up to a place.
use Rattle.std.specs.Prelude.{◌≡◌, ℕ, ◌<◌, Bool, List, length, take, slice_index}
use Rattle.std.specs.List.{range_with_len, list_any}
use Rattle.prta_mass.specs.Table.{Table}
use Rattle.prta_mass.specs.declared.direction.Dir.{Dir}
use Rattle.prta_dist.specs.Addition.{cell_added, leaves_rest}

-- the cells below the end are those of `from` after the addition, and the flag tells whether one of them left a remainder
pub record IsDone (dir : Dir) (table : Table) (from to : List ℕ) (end : ℕ) (rounded : Bool) : Type 0 where
  pub cells : (k : ℕ) → k < end → slice_index to k ≡ cell_added dir table from k
  pub rests : rounded ≡ list_any (leaves_rest table from) (take end (range_with_len 0 (length from)))
