-- Worked values of steps and lists.
use Rattle.std.specs.Prelude.{◌≡◌, ℕ, true, false, List, [], ◌∷◌}
use Rattle.prta_mass.specs.Unit.{unit}
use Rattle.prta_mass.specs.Chances.{point}
use Rattle.prta_stair.specs.Steps.{Steps, steps_of, cells_by_steps}
use Rattle.prta_stair.specs.Reading.{level}
use Rattle.prta_stair.specs.Adding.{sum_at, marked, some_rest}

abbrev pub half : ℕ
half = 576460752303423488

-- the steps of a list of three cells
abbrev pub three : Steps
three = (0, 100) ∷ (1, 301) ∷ (2, 900) ∷ []

-- marks from place 3 on
abbrev pub marks : List ℕ
marks = 5 ∷ 0 ∷ 7 ∷ []

pub record WorkedSteps : Type 0 where
  pub of_a_list : steps_of (0 ∷ half ∷ half ∷ unit ∷ []) ≡ (1, half) ∷ (3, unit) ∷ []
  pub of_its_first_cell : steps_of (5 ∷ 5 ∷ 7 ∷ []) ≡ (0, 5) ∷ (2, 7) ∷ []
  pub of_nothing : steps_of (0 ∷ 0 ∷ 0 ∷ []) ≡ []
  pub of_the_point : steps_of (point 4 2) ≡ (2, unit) ∷ []
  pub list_of_steps : cells_by_steps 4 ((1, half) ∷ (3, unit) ∷ []) ≡ 0 ∷ half ∷ half ∷ unit ∷ []
  pub list_of_none : cells_by_steps 2 [] ≡ 0 ∷ 0 ∷ []
  pub no_level : level three 0 ≡ 0
  pub second_level : level three 2 ≡ 301
  pub first_sum : sum_at ((1, 2) ∷ (2, 1) ∷ []) three 0 ≡ 0
  pub third_sum : sum_at ((1, 2) ∷ (2, 1) ∷ []) three 2 ≡ 702
  pub before_the_marks : marked marks 3 2 ≡ 0
  pub between_the_marks : marked marks 3 4 ≡ 5
  pub past_the_marks : marked marks 3 9 ≡ 12
  pub no_rest : some_rest 5 (marked marks 3) 5 ≡ false
  pub rest : some_rest 5 (marked marks 3) 6 ≡ true
