-- Worked values of lists of chances.
use Rattle.std.specs.Prelude.{◌≡◌, ℕ, true, false, List, [], ◌∷◌}
use Rattle.prta_mass.specs.Unit.{unit}
use Rattle.prta_mass.specs.Chances.{at, before, last, point}
use Rattle.prta_mass.specs.Direction.{divided}
use Rattle.prta_mass.specs.Passing.{passes}
use Rattle.prta_mass.specs.declared.direction.Dir.TheVariants.{Up, Down}

-- a quarter of the unit at 0, and three quarters from 2 on: a quarter stands at infinity
abbrev pub part : List ℕ
part = 288230376151711744 ∷ 288230376151711744 ∷ 864691128455135232 ∷ []

pub record WorkedChances : Type 0 where
  pub inside : at part 1 ≡ 288230376151711744
  pub past_the_end : at part 9 ≡ 864691128455135232
  pub negative : before (at part) 1 2 ≡ 0
  pub last_cell : last part ≡ 864691128455135232
  pub point_at_0 : point 3 0 ≡ unit ∷ unit ∷ unit ∷ []
  pub point_at_2 : point 3 2 ≡ 0 ∷ 0 ∷ unit ∷ []
  pub floor : divided Up 7 2 ≡ 3
  pub ceiling : divided Down 7 2 ≡ 4
  pub exact : divided Down 8 2 ≡ 4
  pub quarter_passes : passes 288230376151711744 1 4 ≡ true
  pub one_more_fails : passes 288230376151711745 1 4 ≡ false
