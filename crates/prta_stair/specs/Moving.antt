-- Lists whose steps move.
use Rattle.std.specs.Prelude.{◌≡◌, ℕ, ◌+◌, ◌<◌, ◌≤◌}
use Rattle.prta_resample.specs.Resample.{read_place}
use Rattle.prta_stair.specs.declared.moving.Move.{Move}
use Rattle.prta_stair.specs.declared.moving.Move.TheVariants.{Shift, Resample}
use Rattle.prta_stair.specs.Steps.{Steps, value_at, AreSteps}

-- the place whose value place k gets
abbrev pub place_read : Move → ℕ → ℕ → ℕ
place_read (Shift t) cap k = k + t
place_read (Resample support dir) cap k = read_place dir support cap k

-- a re-sampling's support has a step
abbrev pub HasStep : Move → Type 0
HasStep (Shift t) = Unit {0}
HasStep (Resample support dir) = 1 ≤ support.step

-- a step that moves from place q to place g counts at each place exactly where it counted at the place that is read for it
abbrev pub MovesTo : (ℕ → ℕ) → ℕ → ℕ → ℕ → Type 0
MovesTo read cap q g = (k : ℕ) → k < cap → (q ≤ read k → g ≤ k) × (g ≤ k → q ≤ read k)

-- steps of a list with the value F k at each place k below the cap
pub record Makes (cap : ℕ) (F : ℕ → ℕ) (made : Steps) : Type 0 where
  pub steps : AreSteps cap made
  pub values : (k : ℕ) → k < cap → value_at made k ≡ F k
