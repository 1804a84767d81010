-- Laws of the operations on a list of chances.
use Rattle.std.specs.Prelude.{◌≡◌, ◌↔◌, ℕ, None, List, length}
use Rattle.prta_mass.specs.Table.{Table, IsTable}
use Rattle.prta_mass.specs.Chances.{IsChances, Dominates}
use Rattle.prta_mass.specs.declared.direction.Dir.{Dir}
use Rattle.prta_dist.specs.Addition.{cells_added, added}
use Rattle.prta_dist.specs.Curve.{first_break}

-- after an addition the cells are a list of chances, before the rule on the last cell and after it
abbrev pub AdditionsKeepChances : Type 0
AdditionsKeepChances = (dir : Dir) (table : Table) (cells : List ℕ) → IsTable table → IsChances cells → IsChances (cells_added dir table cells) × IsChances (added dir table cells)

-- there is no break exactly where the list dominates the image
abbrev pub UnbrokenDominates : Type 0
UnbrokenDominates = (cells image : List ℕ) → length cells ≡ length image → (first_break cells image ≡ None) ↔ Dominates cells image
