-- Worked values of the shift.
use Rattle.std.specs.Prelude.{◌≡◌, ℕ, List, [], ◌∷◌}
use Rattle.prta_mass.specs.Unit.{unit}
use Rattle.prta_shift.specs.Shift.{shifted}

abbrev pub half : ℕ
half = 576460752303423488

-- 1 or 3 ticks of backlog, each with the chance a half
abbrev pub one_or_three : List ℕ
one_or_three = 0 ∷ half ∷ half ∷ unit ∷ []

pub record WorkedShifts : Type 0 where
  pub by_none : shifted 0 one_or_three ≡ one_or_three
  pub by_one : shifted 1 one_or_three ≡ half ∷ half ∷ unit ∷ unit ∷ []
  pub by_two : shifted 2 one_or_three ≡ half ∷ unit ∷ unit ∷ unit ∷ []
  pub past_the_end : shifted 9 one_or_three ≡ unit ∷ unit ∷ unit ∷ unit ∷ []
  pub mass_at_infinity : shifted 9 (0 ∷ half ∷ []) ≡ half ∷ half ∷ []
