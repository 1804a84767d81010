-- Worked values of the delay.
use Rattle.std.specs.Prelude.{◌≡◌, ℕ, true, false, List, [], ◌∷◌}
use Rattle.prta_mass.specs.declared.direction.Dir.TheVariants.{Up, Down}
use Rattle.prta_mass.specs.Unit.{unit}
use Rattle.prta_mass.specs.Table.{Table}
use Rattle.prta_preempt.specs.Delay.{delayed, is_delay_rounded, tail_above, merged}

abbrev pub half : ℕ
half = 576460752303423488

-- 1 or 2 ticks, each with the chance a half
abbrev pub one_or_two : Table
one_or_two = (1, 1) ∷ (2, 1) ∷ []

-- 1 tick with the chance a third, and 2 ticks with two thirds
abbrev pub mostly_two : Table
mostly_two = (1, 1) ∷ (2, 2) ∷ []

-- a response of just 2 ticks
abbrev pub two_ticks : List ℕ
two_ticks = 0 ∷ 0 ∷ unit ∷ unit ∷ unit ∷ []

-- the delaying job is released as the response ends, or one tick before
pub record WorkedDelays : Type 0 where
  pub ends_at_the_release : delayed Up one_or_two 2 two_ticks ≡ two_ticks
  pub ends_after_the_release : delayed Up one_or_two 1 two_ticks ≡ 0 ∷ 0 ∷ 0 ∷ half ∷ unit ∷ []
  pub exact : is_delay_rounded one_or_two 1 two_ticks ≡ false
  pub rounded_down : delayed Up mostly_two 0 (0 ∷ 1 ∷ 2 ∷ 4 ∷ []) ≡ 0 ∷ 0 ∷ 0 ∷ 1 ∷ []
  pub rounded_up : delayed Down mostly_two 0 (0 ∷ 1 ∷ 2 ∷ 4 ∷ []) ≡ 0 ∷ 0 ∷ 1 ∷ 2 ∷ []
  pub rounded : is_delay_rounded mostly_two 0 (0 ∷ 1 ∷ 2 ∷ 4 ∷ []) ≡ true
  pub tail : tail_above 1 (3 ∷ 5 ∷ 5 ∷ 9 ∷ []) ≡ 0 ∷ 0 ∷ 0 ∷ 4 ∷ []
  pub both : merged 1 (3 ∷ 5 ∷ 5 ∷ 9 ∷ []) (0 ∷ 0 ∷ 1 ∷ 2 ∷ []) ≡ 3 ∷ 5 ∷ 6 ∷ 7 ∷ []
