-- Worked assignments.
use Rattle.std.specs.Prelude.{◌≡◌, ℕ, nat_lt, None, Bool, true, false, List, [], ◌∷◌}
use Rattle.prta_mass.specs.declared.direction.Dir.TheVariants.{Up, Down}
use Rattle.prta_sheet.specs.Sheet.{Task, Sheet}
use Rattle.prta_sheet.specs.Job.{nth_job}
use Rattle.prta_backlog.specs.Worked.{sheet, task, each_fourth, half, three_quarters}
use Rattle.prta_audsley.specs.Passing.{job_number, task_passes, order_passes, ChancePasses, ChanceFails}
use Rattle.prta_audsley.specs.Greedy.{Through, Stuck}
use Rattle.prta_audsley.specs.Verdict.{greedy_by, verdict}
use Rattle.prta_audsley.specs.declared.assigned.Assigned.TheVariants.{Order, Undecided, Impossible}

-- jobs of one time
abbrev pub fixed : ℕ → ℕ → ℕ → ℕ → Task
fixed offset period deadline time = task offset period deadline (((time, 1) ∷ []) ∷ [])

-- one of 2 ticks each 4 ticks, above one of 1 tick each 2 ticks that has to end in the tick of its release
abbrev pub wrong_way : Sheet
wrong_way = sheet 6 1 None (fixed 0 4 4 2 ∷ fixed 0 2 1 1 ∷ [])

-- two that both have to end in the tick of their release
abbrev pub clash : Sheet
clash = sheet 6 1 None (fixed 0 2 1 1 ∷ fixed 0 2 1 1 ∷ [])

-- late in one of ten cases, and allowed to be: the upper number is rounded to above the allowance, the lower one to below it
abbrev pub just_allowed : Task
just_allowed = record (task 0 10 5 (((3, 9) ∷ (7, 1) ∷ []) ∷ [])) { allow = (1, 10) }

abbrev pub close : Sheet
close = sheet 7 1 None (just_allowed ∷ [])

-- such a one, and one that is always late
abbrev pub close_and_late : Sheet
close_and_late = sheet 10 1 None (just_allowed ∷ fixed 0 10 1 2 ∷ [])

-- three with time enough for any order, of which the lowest place takes the first
abbrev pub easy : Sheet
easy = sheet 8 1 None (fixed 0 6 6 1 ∷ fixed 0 6 6 1 ∷ fixed 0 6 6 1 ∷ [])

-- two that clash, above one that can stand anywhere
abbrev pub clash_above : Sheet
clash_above = sheet 8 1 None (fixed 0 4 1 1 ∷ fixed 0 4 1 1 ∷ fixed 0 4 4 1 ∷ [])

-- one of 1 tick, from 2 on, above one of 1 or 4 ticks, re-sampled at each fourth cell
abbrev pub sampled : Sheet
sampled = sheet 5 2 each_fourth (fixed 2 3 1 1 ∷ task 0 3 1 (((1, 1) ∷ (4, 1) ∷ []) ∷ []) ∷ [])

-- the set of the first tasks of a sheet
abbrev pub first_tasks : Bool → Bool → List Bool
first_tasks a b = a ∷ b ∷ false ∷ false ∷ false ∷ false ∷ false ∷ false ∷ false ∷ false ∷ false ∷ false ∷ []

pub record WorkedAssignments : Type 0 where
  -- the order turned round
  pub turned : verdict wrong_way ≡ Order (1 ∷ 0 ∷ [])
  pub lowest_first : verdict easy ≡ Order (2 ∷ 1 ∷ 0 ∷ [])
  -- no order can be
  pub impossible : verdict clash ≡ Impossible (first_tasks true true)
  pub stuck_above : verdict clash_above ≡ Impossible (first_tasks true true)
  -- by Up two tasks are left, by Down just one of them
  pub left_by_up : greedy_by Up close_and_late ≡ Stuck (0 ∷ 1 ∷ [])
  pub left_by_down : verdict close_and_late ≡ Impossible (first_tasks false true)
  -- by Up the greedy is stuck, by Down it gets through
  pub undecided : verdict close ≡ Undecided (first_tasks true false)
  pub stuck : greedy_by Up close ≡ Stuck (0 ∷ [])
  pub through : greedy_by Down close ≡ Through (0 ∷ [])
  pub turned_passes : order_passes Up wrong_way (1 ∷ 0 ∷ []) ≡ true
  pub own_order_fails : order_passes Up wrong_way (0 ∷ 1 ∷ []) ≡ false
  -- of two that clash the lower one always misses, which it isn't allowed to, and the higher one never does
  pub higher_passes : ChancePasses clash (0 ∷ 1 ∷ []) (nth_job clash.tasks 0 0)
  pub lower_fails : ChanceFails clash (0 ∷ 1 ∷ []) (nth_job clash.tasks 1 0)
  -- the task that goes up passes below none, and not below the other
  pub passes_below_none : task_passes Up wrong_way (λ _. false) 1 ≡ true
  pub fails_below_other : task_passes Up wrong_way (λ _. true) 1 ≡ false
  -- a lower number may fall where a task is added above; so the lower numbers alone don't tell that an order fails
  pub lower_alone : job_number Down sampled (λ _. false) 1 1 ≡ three_quarters
  pub lower_below : job_number Down sampled (λ i. nat_lt i 1) 1 1 ≡ half
