-- Worked values of re-sampling.
use Rattle.std.specs.Prelude.{◌≡◌, ℕ, List, [], ◌∷◌}
use Rattle.prta_mass.specs.declared.direction.Dir.TheVariants.{Up, Down}
use Rattle.prta_mass.specs.declared.support.Support.{Support}
use Rattle.prta_mass.specs.Unit.{unit}
use Rattle.prta_resample.specs.Resample.{support_below, support_above, resampled, moved_amount}

abbrev pub half : ℕ
half = 576460752303423488

-- 1 or 3 ticks of backlog, each with the chance a half
abbrev pub one_or_three : List ℕ
one_or_three = 0 ∷ half ∷ half ∷ unit ∷ []

-- each second place
abbrev pub each_second : Support
each_second = record { fine = 0; step = 2 }

-- 0, 1 and 2, and each fourth place
abbrev pub each_fourth : Support
each_fourth = record { fine = 2; step = 4 }

-- the support points of each_fourth below 11 are 0, 1, 2, 4, 8 and 10
pub record WorkedResamplings : Type 0 where
  pub below_a_point : support_below each_fourth 11 3 ≡ 2
  pub at_a_point : support_below each_fourth 11 4 ≡ 4
  pub below_the_last_cell : support_below each_fourth 11 9 ≡ 8
  pub above_a_point : support_above each_fourth 11 4 ≡ 8
  pub at_the_last_cell : support_above each_fourth 11 9 ≡ 10
  pub up : resampled Up each_second one_or_three ≡ 0 ∷ 0 ∷ half ∷ unit ∷ []
  pub down : resampled Down each_second one_or_three ≡ half ∷ half ∷ half ∷ unit ∷ []
  pub moved_up : moved_amount one_or_three (0 ∷ 0 ∷ half ∷ unit ∷ []) ≡ half
  pub moved_down : moved_amount one_or_three (half ∷ half ∷ half ∷ unit ∷ []) ≡ half
  pub moved_none : moved_amount one_or_three one_or_three ≡ 0
