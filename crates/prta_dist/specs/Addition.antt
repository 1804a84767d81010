-- Adding a table to a list of chances, in a direction of rounding.
use Rattle.std.specs.Prelude.{ℕ, ◌-◌, ◌*◌, ◌%◌, Bool, not, nat_eq, List, length, sum_by, slice_set}
use Rattle.std.specs.List.{range_with_len, list_any}
use Rattle.prta_mass.specs.Unit.{unit}
use Rattle.prta_mass.specs.Table.{Table, total}
use Rattle.prta_mass.specs.Chances.{last, at, before, cells_of}
use Rattle.prta_mass.specs.Direction.{divided}
use Rattle.prta_mass.specs.declared.direction.Dir.{Dir}
use Rattle.prta_mass.specs.declared.direction.Dir.TheVariants.{Up, Down}

-- the sum over the pairs of the weight times the list's value one time before place k
abbrev pub weighted : Table → List ℕ → ℕ → ℕ
weighted table cells k = sum_by (λ pair. pair.1 * before (at cells) k pair.0) table

-- the new cell k: the weighted mean, rounded in the direction
abbrev pub cell_added : Dir → Table → List ℕ → ℕ → ℕ
cell_added dir table cells k = divided dir (weighted table cells k) (total table)

-- all new cells, before the rule on the last cell
abbrev pub cells_added : Dir → Table → List ℕ → List ℕ
cells_added dir table cells = cells_of (length cells) (cell_added dir table cells)

-- the rule on the last cell: in Down it is set to the unit
abbrev pub settled : Dir → List ℕ → List ℕ
settled Up cells = cells
settled Down cells = slice_set cells (length cells - 1) unit

-- the list after the addition of a table
abbrev pub added : Dir → Table → List ℕ → List ℕ
added dir table cells = settled dir (cells_added dir table cells)

-- the division leaves a remainder in cell k
abbrev pub leaves_rest : Table → List ℕ → ℕ → Bool
leaves_rest table cells k = not (nat_eq (weighted table cells k % total table) 0)

-- it does so in some cell
abbrev pub is_rounded : Table → List ℕ → Bool
is_rounded table cells = list_any (leaves_rest table cells) (range_with_len 0 (length cells))

-- what an addition cuts off by the last cell before and the computed one: in Up what is missing to the cell before, in Down what is missing to the unit
abbrev pub missing : Dir → ℕ → ℕ → ℕ
missing Up before computed = before - computed
missing Down before computed = unit - computed

-- the cut of an addition
abbrev pub cut_amount : Dir → Table → List ℕ → ℕ
cut_amount dir table cells = missing dir (last cells) (last (cells_added dir table cells))
