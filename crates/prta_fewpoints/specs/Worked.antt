-- Worked reductions.
use Rattle.std.specs.Prelude.{◌≡◌, Some, None, [], ◌∷◌}
use Rattle.prta_mass.specs.Table.{Table}
use Rattle.prta_mass.specs.declared.table.TableFault.TheVariants.{Empty, ZeroTime, NotIncreasing, ZeroWeight}
use Rattle.prta_fewpoints.specs.Wide.{wide_fault}
use Rattle.prta_fewpoints.specs.Choices.{moved_to, cost, weight_at, merged}
use Rattle.prta_fewpoints.specs.Recursion.{least_cost, kept_times, reduced}

-- the times 1, 2, 3 and 1 to 4, with a weight of 1 each
abbrev pub three : Table
three = (1, 1) ∷ (2, 1) ∷ (3, 1) ∷ []

abbrev pub four : Table
four = (1, 1) ∷ (2, 1) ∷ (3, 1) ∷ (4, 1) ∷ []

-- most of the weight stands at 2
abbrev pub heavy : Table
heavy = (1, 1) ∷ (2, 9) ∷ (7, 2) ∷ (9, 1) ∷ []

pub record WorkedReductions : Type 0 where
  pub moves_up : moved_to (2 ∷ 4 ∷ []) 3 ≡ 4
  pub stays : moved_to (2 ∷ 4 ∷ []) 2 ≡ 2
  pub costs_two : cost (2 ∷ 4 ∷ []) four ≡ 2
  pub costs_more : cost (1 ∷ 4 ∷ []) four ≡ 3
  pub counts_weights : cost (7 ∷ 9 ∷ []) heavy ≡ 51
  pub weighs : weight_at (2 ∷ 4 ∷ []) four 4 ≡ 2
  pub merges : merged (2 ∷ 9 ∷ []) heavy ≡ (2, 10) ∷ (9, 3) ∷ []
  pub two : reduced four 2 ≡ (2, 2) ∷ (4, 2) ∷ []
  pub least : least_cost 2 four ≡ Some 2
  pub too_few : least_cost 5 four ≡ None
  pub one : reduced four 1 ≡ (4, 4) ∷ []
  pub all : reduced four 4 ≡ four
  pub more_than_all : reduced four 32 ≡ four
  -- 1 and 3 cost as much as 2 and 3, and come first
  pub first : reduced three 2 ≡ (1, 1) ∷ (3, 2) ∷ []
  pub at_the_weight : reduced heavy 2 ≡ (2, 10) ∷ (9, 3) ∷ []
  pub keeps : kept_times heavy 3 ≡ 2 ∷ 7 ∷ 9 ∷ []
  pub no_pairs : wide_fault [] ≡ Some Empty
  pub no_fault : wide_fault four ≡ None
  pub zero_time : wide_fault ((0, 1) ∷ []) ≡ Some (ZeroTime 0)
  pub falls : wide_fault ((2, 1) ∷ (2, 1) ∷ []) ≡ Some (NotIncreasing 1)
  pub zero_weight : wide_fault ((2, 1) ∷ (3, 0) ∷ []) ≡ Some (ZeroWeight 1)
