-- Worked values of additions, cuts and of the other lists that a curve makes.
use Rattle.std.specs.Prelude.{◌≡◌, ℕ, true, false, None, Some, List, [], ◌∷◌}
use Rattle.prta_mass.specs.Unit.{unit}
use Rattle.prta_mass.specs.Table.{Table}
use Rattle.prta_mass.specs.declared.direction.Dir.TheVariants.{Up, Down}
use Rattle.prta_dist.specs.Addition.{cells_added, added, is_rounded, cut_amount}
use Rattle.prta_dist.specs.Curve.{lower, raise, first_break}

-- 1 tick in two of three cases, 2 ticks else
abbrev pub third : Table
third = (1, 2) ∷ (2, 1) ∷ []

-- a list of three cells, and one at whose end nothing stands at infinity after an addition
abbrev pub start : List ℕ
start = 100 ∷ 301 ∷ 900 ∷ []

abbrev pub whole : List ℕ
whole = 100 ∷ unit ∷ unit ∷ unit ∷ []

pub record WorkedAdditions : Type 0 where
  pub up : added Up third start ≡ 0 ∷ 66 ∷ 234 ∷ []
  pub down : cells_added Down third start ≡ 0 ∷ 67 ∷ 234 ∷ []
  pub settled_down : added Down third start ≡ 0 ∷ 67 ∷ unit ∷ []
  pub rounded : is_rounded third start ≡ true
  pub again_exact_up : is_rounded third (0 ∷ 66 ∷ 234 ∷ []) ≡ false
  pub again_rounded_down : is_rounded third (0 ∷ 67 ∷ unit ∷ []) ≡ true
  pub cut_up : cut_amount Up third start ≡ 666
  pub cut_down : cut_amount Down third start ≡ 1152921504606846742
  pub uncut : cut_amount Down third whole ≡ 0
  pub lowered : lower 200 2 start ≡ 0 ∷ 101 ∷ unit ∷ []
  pub raised : raise 1 400 start ≡ 100 ∷ 400 ∷ 400 ∷ []
  pub dominates : first_break start (100 ∷ 301 ∷ 901 ∷ []) ≡ None
  pub breaks : first_break start (100 ∷ 300 ∷ 899 ∷ []) ≡ Some (record { place = 1; had = 301; got = 300 })
