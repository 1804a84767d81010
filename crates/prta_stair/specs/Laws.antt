-- Steps and lists of chances determine each other.
use Rattle.std.specs.Prelude.{◌≡◌, ℕ, List, length}
use Rattle.prta_mass.specs.Chances.{IsChances}
use Rattle.prta_stair.specs.Steps.{Steps, steps_of, cells_by_steps, AreSteps}

pub record StepsAreLists : Type 0 where
  -- a list of chances is that of its steps
  pub read : (cells : List ℕ) → IsChances cells → cells_by_steps (length cells) (steps_of cells) ≡ cells
  -- what holds of steps holds of its steps
  pub rise : (cells : List ℕ) → IsChances cells → AreSteps (length cells) (steps_of cells)
  -- the steps of the list that has given steps are these
  pub read_back : (cap : ℕ) (steps : Steps) → AreSteps cap steps → steps_of (cells_by_steps cap steps) ≡ steps
  -- the list that has given steps is one of chances
  pub chances : (cap : ℕ) (steps : Steps) → AreSteps cap steps → IsChances (cells_by_steps cap steps)
