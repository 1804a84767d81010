-- A value that a list gets from a place on.
use Rattle.std.specs.Prelude.{◌≡◌, ℕ, ◌<◌, ◌≤◌, nat_le, if◌then◌else◌, length}
use Rattle.prta_stair.specs.Steps.{Steps, value_at, place, height, AreSteps}

-- new steps are old ones with a value from a place on; none of theirs stands behind it
pub record IsPut (cap at value : ℕ) (old new : Steps) : Type 0 where
  pub values : (k : ℕ) → value_at new k ≡ (if nat_le at k then value else value_at old k)
  pub steps : AreSteps cap new
  pub most : (i : ℕ) → i < length new → (place new i ≤ at) × (height new i ≤ value)
