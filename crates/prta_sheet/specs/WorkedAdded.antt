-- A worked sheet with ticks added to a task whose cycle has two tables.
use Rattle.std.specs.Prelude.{◌≡◌, List, [], ◌∷◌}
use Rattle.prta_sheet.specs.Sheet.{Task, task_at, hyperperiod}
use Rattle.prta_sheet.specs.Work.{work}
use Rattle.prta_sheet.specs.Worked.{task, task_in_turn, in_turn, sheet_of}
use Rattle.prta_sheet.specs.Added.{tasks_with_added, sheet_with_added, greatest_time, room}

-- the same tasks with 2 ticks more for the first one
abbrev pub in_turn_later : List Task
in_turn_later = task_in_turn 0 5 5 (((5, 1) ∷ (8, 1) ∷ []) ∷ ((4, 1) ∷ []) ∷ []) ∷ task 0 10 9 ((1, 1) ∷ []) ∷ []

pub record WorkedAdded : Type 0 where
  pub both_tables : tasks_with_added in_turn 0 2 ≡ in_turn_later
  pub of_the_second : tasks_with_added in_turn 1 4 ≡ task_in_turn 0 5 5 (((3, 1) ∷ (6, 1) ∷ []) ∷ ((2, 1) ∷ []) ∷ []) ∷ task 0 10 9 ((5, 1) ∷ []) ∷ []
  pub greatest_of_both : greatest_time (task_at in_turn 0) ≡ 6
  pub its_room : room (task_at in_turn 0) ≡ 999994
  pub its_hyperperiod : hyperperiod in_turn_later ≡ 10
  pub its_work : work (sheet_with_added (sheet_of in_turn) 0 2) ≡ 106
