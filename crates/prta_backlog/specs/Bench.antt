-- The curves of a bench.
use Rattle.std.specs.Prelude.{◌≡◌, ℕ, List, length}

-- three lists of as many cells
pub record HaveOneCap (first second third : List ℕ) : Type 0 where
  pub second_is : length second ≡ length first
  pub third_is : length third ≡ length first
