-- Additions that are done up to a place.
use Rattle.std.proofs.Common.{◌≡◌, ℕ, zero, suc, ◌<◌, true, false, [], ◌∷◌, get_or, refl, arith}
use Rattle.prta_mass.specs.declared.direction.Dir.TheVariants.{Up, Down}
use Rattle.prta_dist.specs.Addition.{cell_added}
use Rattle.prta_convlane.specs.Progress.{IsDone}
use Rattle.prta_convlane.specs.Worked.{third}

pub up_to_one : IsDone Up third (100 ∷ 301 ∷ 900 ∷ []) (0 ∷ 9 ∷ []) 1 false
up_to_one = record { cells = first; rests = refl }
  where
    first : (k : ℕ) → k < 1 → get_or (0 ∷ 9 ∷ []) k 0 ≡ cell_added Up third (100 ∷ 301 ∷ 900 ∷ []) k
    first zero h = refl
    first (suc k) h = absurd (omega arith)

pub down_to_two : IsDone Down third (100 ∷ 301 ∷ 900 ∷ []) (0 ∷ 67 ∷ 9 ∷ []) 2 true
down_to_two = record { cells = first; rests = refl }
  where
    first : (k : ℕ) → k < 2 → get_or (0 ∷ 67 ∷ 9 ∷ []) k 0 ≡ cell_added Down third (100 ∷ 301 ∷ 900 ∷ []) k
    first zero h = refl
    first (suc zero) h = refl
    first (suc (suc k)) h = absurd (omega arith)
