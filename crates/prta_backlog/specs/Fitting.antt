-- Benches that fit a sheet.
use Rattle.std.specs.Prelude.{◌≡◌, ℕ, List, length}

-- the curves of a bench, seen as lists, and its work lists, seen by their lengths, have as many cells as a sheet's cap
pub record FitsCap (cap : ℕ) (main spare kept : List ℕ) (cells tail room : ℕ) : Type 0 where
  pub main_is : length main ≡ cap
  pub spare_is : length spare ≡ cap
  pub kept_is : length kept ≡ cap
  pub cells_are : cells ≡ cap
  pub tail_is : tail ≡ cap
  pub room_is : room ≡ cap
