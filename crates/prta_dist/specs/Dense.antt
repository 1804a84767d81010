-- What holds of every curve that keeps its cells.
use Rattle.std.specs.Prelude.{◌≡◌, ℕ, ◌≤◌, List, length}
use Rattle.prta_mass.specs.Chances.{IsChances}
use Rattle.prta_dist.specs.Window.{IsWindow}

-- a list of chances of 3 to 16384 cells, as many spare cells, and the list's window
pub record IsDense (cells spare : List ℕ) (lo hi : ℕ) : Type 0 where
  pub chances : IsChances cells
  pub least : 3 ≤ length cells
  pub most : length cells ≤ 16384
  pub room : length spare ≡ length cells
  pub window : IsWindow cells lo hi
