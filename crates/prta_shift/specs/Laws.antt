-- Laws of the shift.
use Rattle.std.specs.Prelude.{◌≡◌, ℕ, ◌+◌, ◌<◌, List, length}
use Rattle.prta_mass.specs.Chances.{at, last, IsChances}
use Rattle.prta_shift.specs.Shift.{shifted}

-- two shifts are one by the sum
abbrev pub ShiftsAdd : Type 0
ShiftsAdd = (a b : ℕ) (cells : List ℕ) → 0 < length cells → shifted b (shifted a cells) ≡ shifted (a + b) cells

-- what a shifted list keeps of a list of chances
pub record KeptByShift (before after : List ℕ) : Type 0 where
  pub chances : IsChances after
  pub size : length after ≡ length before
  pub ending : last after ≡ last before

abbrev pub ShiftsKeepChances : Type 0
ShiftsKeepChances = (t : ℕ) (cells : List ℕ) → IsChances cells → KeptByShift cells (shifted t cells)

-- the value at every place, also past the end, is the one that stood t later
abbrev pub ShiftsReadLater : Type 0
ShiftsReadLater = (t : ℕ) (cells : List ℕ) (k : ℕ) → 0 < length cells → at (shifted t cells) k ≡ at cells (k + t)
