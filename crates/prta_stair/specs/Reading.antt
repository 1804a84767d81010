-- What a loop over steps knows of those that it has passed.
use Rattle.std.specs.Prelude.{ℕ, zero, suc, ◌+◌, ◌<◌, ◌≤◌, length}
use Rattle.prta_stair.specs.Steps.{Steps, place, height}

-- the value of the last of the first i steps, and 0 where there is none
abbrev pub level : Steps → ℕ → ℕ
level steps zero = 0
level steps (suc i) = height steps i

-- the first i steps stand c places before k or earlier
pub record IsReached (steps : Steps) (c k i : ℕ) : Type 0 where
  pub within : i ≤ length steps
  pub passed : (n : ℕ) → n < i → place steps n + c ≤ k

-- each step stands below the cap
abbrev pub AreBelow : ℕ → Steps → Type 0
AreBelow cap steps = (i : ℕ) → i < length steps → place steps i < cap
