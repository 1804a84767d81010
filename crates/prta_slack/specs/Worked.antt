-- Worked slacks.
use Rattle.std.specs.Prelude.{◌≡◌, ℕ, None, Some, [], ◌∷◌}
use Rattle.prta_sheet.specs.Sheet.{Task, Sheet}
use Rattle.prta_sheet.specs.Job.{nth_job}
use Rattle.prta_sheet.specs.Added.{sheet_with_added}
use Rattle.prta_backlog.specs.Level.{sheet_level}
use Rattle.prta_backlog.specs.Worked.{sheet, task, quarter}
use Rattle.prta_dual.specs.Numbers.{upper}
use Rattle.prta_dual.specs.Failing.{failing}
use Rattle.prta_slack.specs.Answer.{room_of, slack_of, IsCause}
use Rattle.prta_slack.specs.declared.answer.Slack.TheVariants.{Fails, Ticks, All as Whole}

-- each 10 ticks a job of 3 ticks, or in one of four cases of 7, that has 5 ticks of time; it may be late in p of q cases
abbrev pub one : ℕ → ℕ → Task
one p q = record (task 0 10 5 (((3, 3) ∷ (7, 1) ∷ []) ∷ [])) { allow = (p, q) }

abbrev pub alone : ℕ → ℕ → Sheet
alone p q = sheet 12 1 None (one p q ∷ [])

-- the same with a time near the limit, so that 2 ticks may be added
abbrev pub near_limit : ℕ → ℕ × ℕ → Sheet
near_limit time allowed = sheet 12 1 None (record (task 0 10 5 (((time, 3) ∷ (999998, 1) ∷ []) ∷ [])) { allow = allowed } ∷ [])

-- a job of 1 or 2 ticks each 4 ticks, above one of 1 or 3 ticks each 8 ticks: it always has just time enough
abbrev pub two : Sheet
two = sheet 12 1 None (task 0 4 4 (((1, 1) ∷ (2, 1) ∷ []) ∷ []) ∷ task 0 8 8 (((1, 1) ∷ (3, 1) ∷ []) ∷ []) ∷ [])

pub record WorkedSlacks : Type 0 where
  -- it is late in one of four cases, and isn't allowed to be
  pub fails : IsCause (alone 0 1) 0 (Fails 0 0 quarter)
  -- where it is, up to 2 ticks may be added to its 3
  pub ticks : IsCause (alone 1 4) 0 (Ticks 2)
  -- where it may always be late, all that a time may have
  pub all : IsCause (alone 1 1) 0 (Whole 999993)
  -- the task above has time for 2 ticks more, and leaves too little to the one below; which has time for 1 more itself
  pub above : IsCause two 0 (Ticks 0)
  pub above_alone : upper (sheet_with_added two 0 1) (sheet_level 0) (nth_job two.tasks 0 0) ≡ 0
  pub below_it : failing (sheet_with_added two 0 1) ≡ Some (nth_job two.tasks 1 0, 144115188075855872)
  pub below : IsCause two 1 (Ticks 1)
  -- the answer itself, where the room is 2 ticks
  pub its_room : room_of (near_limit 4 (1, 4)) 0 ≡ 2
  pub one_tick : slack_of (near_limit 4 (1, 4)) 0 ≡ Ticks 1
  pub both_ticks : slack_of (near_limit 3 (1, 4)) 0 ≡ Whole 2
  pub no_tick : slack_of (near_limit 3 (0, 1)) 0 ≡ Fails 0 0 quarter
