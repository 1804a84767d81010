-- Worked values of the finish by backlog.
use Rattle.std.specs.Prelude.{◌≡◌, ℕ, List, [], ◌∷◌}
use Rattle.prta_sheet.specs.Job.{Job}
use Rattle.prta_sheet.specs.Assignment.{Timed}
use Rattle.prta_jobs.specs.Backlog.{backlog_at, finish_by_backlog}

-- task 0 has offset 0 and period 4, task 1 has offset 0 and period 8; these are their jobs before 8
abbrev pub high : Job
high = record { task = 0; number = 0; release = 0 }

abbrev pub low : Job
low = record { task = 1; number = 0; release = 0 }

abbrev pub next_high : Job
next_high = record { task = 0; number = 1; release = 4 }

-- with these times
abbrev pub timed : ℕ → ℕ → ℕ → List Timed
timed a b c = record { job = high; time = a } ∷ record { job = low; time = b } ∷ record { job = next_high; time = c } ∷ []

pub record WorkedFinishes : Type 0 where
  pub delayed_at_4 : finish_by_backlog (0 ∷ 1 ∷ []) (timed 2 4 1) low ≡ 7
  -- what finishes at 4 isn't delayed by the release at 4
  pub done_at_4 : finish_by_backlog (0 ∷ 1 ∷ []) (timed 2 2 1) low ≡ 4
  pub first_of_high : finish_by_backlog (0 ∷ 1 ∷ []) (timed 2 4 1) high ≡ 2
  pub second_of_high : finish_by_backlog (0 ∷ 1 ∷ []) (timed 2 4 1) next_high ≡ 5
  -- the first job isn't done at 4, and the backlog of 1 stands before the second
  pub late_before_its_next : finish_by_backlog (0 ∷ 1 ∷ []) (timed 5 2 3) next_high ≡ 8
  -- under the other order the low task's job is served first
  pub other_order_first : finish_by_backlog (1 ∷ 0 ∷ []) (timed 2 4 1) low ≡ 4
  pub other_order_second : finish_by_backlog (1 ∷ 0 ∷ []) (timed 2 4 1) high ≡ 6
  pub backlog_at_8 : backlog_at 0 0 (timed 2 4 1) 8 ≡ 0
  pub backlog_at_6 : backlog_at 0 0 (timed 2 4 1) 6 ≡ 1
