-- Worked tails.
use Rattle.std.specs.Prelude.{◌≡◌, ◌^◌, true, false, Some, None, List, [], ◌∷◌}
use Rattle.prta_sheet.specs.Sheet.{Task}
use Rattle.prta_sheet.specs.Job.{nth_job}
use Rattle.prta_backlog.specs.Worked.{task, heavy, alone, below}
use Rattle.prta_backlog.specs.Greatest.{greatest_work, worst_backlog}
use Rattle.prta_tail.specs.Ratios.{ratio}
use Rattle.prta_tail.specs.Walk.{grown, factor, walk_to, ratio_passes, first_ratio}
use Rattle.prta_tail.specs.Tail.{tail_number, base_list}

-- each 4 ticks a job of 1 tick, or in one of eight cases of 6
abbrev pub light : List Task
light = task 0 4 4 (((1, 7) ∷ (6, 1) ∷ []) ∷ []) ∷ []

-- each 4 ticks a job of 1 tick, or with the same chance of 7: the mean work is the period
abbrev pub full : List Task
full = task 0 4 4 (((1, 1) ∷ (7, 1) ∷ []) ∷ []) ∷ []

-- each 4 ticks a job of 1 tick, or in one of four cases of 3, above two jobs in turn each 8 ticks, from 1 on
abbrev pub turning : List Task
turning = task 0 4 4 (((1, 3) ∷ (3, 1) ∷ []) ∷ []) ∷ task 1 8 7 (((2, 7) ∷ (9, 1) ∷ []) ∷ ((1, 1) ∷ []) ∷ []) ∷ []

-- the growth and the factors
pub record WorkedWalks : Type 0 where
  pub doubled : grown (ratio 1 2) 3 ≡ 2 ^ 35
  pub rounded : grown (ratio 3 4) 1 ≡ 5726623062
  pub mean : factor (ratio 1 2) ((1, 7) ∷ (6, 1) ∷ []) ≡ 41875931136
  pub one_tick : (walk_to light alone (ratio 1 2) 1).now ≡ 5360119185408
  pub one_hyperperiod : (walk_to light alone (ratio 1 2) 4).now ≡ 670014898176
  pub light_passes : ratio_passes light alone (ratio 1 2) ≡ true
  pub half_fails : ratio_passes heavy alone (ratio 1 2) ≡ false
  pub three_quarters_fail : ratio_passes heavy alone (ratio 3 4) ≡ false
  pub heavy_ratio : first_ratio heavy alone ≡ Some (ratio 7 8)
  pub full_has_none : first_ratio full alone ≡ None
  pub full_work : greatest_work full alone ≡ 7
  -- a level of two tasks, one with an offset and two tables
  pub level_walk : (walk_to turning below (ratio 1 2) 16).now ≡ 339880181760
  pub level_ratio : first_ratio turning below ≡ Some (ratio 1 2)

pub record WorkedTails : Type 0 where
  pub worst : worst_backlog light alone ≡ 2
  pub base : base_list light alone 5 (ratio 1 2) ≡ 0 ∷ 0 ∷ 576460752303423488 ∷ 864691128455135232 ∷ 1008806316530991104 ∷ []
  pub no_turn : tail_number light alone 2048 0 (ratio 1 2) (nth_job light 0 0) ≡ 396316767208603648
  pub one_turn : tail_number light alone 2048 1 (ratio 1 2) (nth_job light 0 0) ≡ 297800525359874048
  pub heavy_worst : worst_backlog heavy alone ≡ 2
  pub heavy_tail : tail_number heavy alone 2048 0 (ratio 7 8) (nth_job heavy 0 0) ≡ 1017813515785732096
  pub level_worst : worst_backlog turning below ≡ 6
  pub level_work : greatest_work turning below ≡ 22
  pub first_of_level : tail_number turning below 48 2 (ratio 1 2) (nth_job turning 1 0) ≡ 189936962952085504
  pub second_of_level : tail_number turning below 48 3 (ratio 1 2) (nth_job turning 1 1) ≡ 44386580574342219
