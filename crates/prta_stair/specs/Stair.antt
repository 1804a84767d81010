-- What holds of every curve that keeps its steps.
use Rattle.std.specs.Prelude.{◌≡◌, ℕ, ◌≤◌, List, length, take}
use Rattle.prta_stair.specs.Steps.{Steps, AreSteps}

-- room for the steps of 3 to 16384 cells, of which the first are those of a list of chances, and as much spare room and
-- room for marks
pub record IsStair (kept spare : Steps) (marks : List ℕ) (count : ℕ) : Type 0 where
  pub least : 3 ≤ length kept
  pub most : length kept ≤ 16384
  pub room : length spare ≡ length kept
  pub space : length marks ≡ length kept
  pub within : count ≤ length kept
  pub steps : AreSteps (length kept) (take count kept)
