-- Laws of re-sampling.
use Rattle.std.specs.Prelude.{◌≡◌, ℕ, ◌<◌, List, length}
use Rattle.prta_mass.specs.declared.direction.Dir.{Dir}
use Rattle.prta_mass.specs.declared.support.Support.{Support}
use Rattle.prta_mass.specs.Chances.{at, last, IsChances}
use Rattle.prta_mass.specs.Direction.{IsSafe}
use Rattle.prta_resample.specs.Resample.{resampled}

-- what a re-sampled list keeps of a list of chances: no cell rises in Up, and none falls in Down
pub record KeptByResampling (dir : Dir) (before after : List ℕ) : Type 0 where
  pub chances : IsChances after
  pub size : length after ≡ length before
  pub ending : last after ≡ last before
  pub safe : (k : ℕ) → k < length before → IsSafe dir (at after k) (at before k)

abbrev pub ResamplingsKeepChances : Type 0
ResamplingsKeepChances = (dir : Dir) (support : Support) (cells : List ℕ) → 0 < length cells → IsChances cells → KeptByResampling dir cells (resampled dir support cells)
