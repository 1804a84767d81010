-- Worked values of the model.
use Rattle.std.specs.Prelude.{◌≡◌, ℕ, None, List, [], ◌∷◌, map, replicate}
use Rattle.prta_mass.specs.Table.{Table}
use Rattle.prta_sheet.specs.Sheet.{Task, Sheet, sheet_order, hyperperiod}
use Rattle.prta_sheet.specs.Job.{Job, table_of, jobs_before}
use Rattle.prta_sheet.specs.Counts.{job_count, all_jobs}
use Rattle.prta_sheet.specs.Work.{work}
use Rattle.prta_sheet.specs.Assignment.{Timed}
use Rattle.prta_sheet.specs.Machine.{after, IsFinish}
use Rattle.prta_sheet.specs.Chance.{miss_weight, chance_total}

abbrev pub task_in_turn : ℕ → ℕ → ℕ → List Table → Task
task_in_turn offset period deadline cycle = record { name = []; offset = offset; period = period; deadline = deadline; cycle = cycle; allow = (0, 1) }

-- a task with one table
abbrev pub task : ℕ → ℕ → ℕ → Table → Task
task offset period deadline table = task_in_turn offset period deadline (table ∷ [])

-- the exact chance of a job of a sheet, in the sheet's own order, is miss of all
pub record HasChance (tasks : List Task) (job : Job) (miss all : ℕ) : Type 0 where
  pub missed : miss_weight tasks (sheet_order tasks) job ≡ miss
  pub total : chance_total tasks job ≡ all

abbrev pub first_job : ℕ → Job
first_job i = record { task = i; number = 0; release = 0 }

-- one task alone
abbrev pub alone : ℕ → Table → List Task
alone deadline table = task 0 10 deadline table ∷ []

-- a task of period 4 above a task of period 8 with the given deadline
abbrev pub pair : ℕ → List Task
pair deadline = task 0 4 4 ((1, 1) ∷ (2, 1) ∷ []) ∷ task 0 8 deadline ((2, 1) ∷ (4, 1) ∷ []) ∷ []

-- a task of period 5 with two tables in turn, above a task of period 10 with one
abbrev pub in_turn : List Task
in_turn = task_in_turn 0 5 5 (((3, 1) ∷ (6, 1) ∷ []) ∷ ((2, 1) ∷ []) ∷ []) ∷ task 0 10 9 ((1, 1) ∷ []) ∷ []

-- the second job of that first task, and its third, which is its first one of the next hyperperiod
abbrev pub second_in_turn : Job
second_in_turn = record { task = 0; number = 1; release = 5 }

abbrev pub third_in_turn : Job
third_in_turn = record { task = 0; number = 2; release = 10 }

-- the jobs of the sheet of the pair before 8, with the times 2, 4 and 1
abbrev pub second_release : Job
second_release = record { task = 0; number = 1; release = 4 }

abbrev pub start : List Timed
start = record { job = first_job 0; time = 2 } ∷ record { job = first_job 1; time = 4 } ∷ record { job = second_release; time = 1 } ∷ []

-- a sheet with a cap of 12 and one hyperperiod
abbrev pub sheet_of : List Task → Sheet
sheet_of tasks = record { settings = record { cap = 12; hyperperiods = 1; turns = 16; support = None }; tasks = tasks }

abbrev pub pair_sheet : Sheet
pair_sheet = sheet_of (pair 7)

-- the time that remains to each listed job after n ticks
abbrev pub left_after : ℕ → List ℕ
left_after n = map (λ e. e.time) (after (0 ∷ 1 ∷ []) start n)

pub record WorkedValues : Type 0 where
  pub quarter : HasChance (alone 5 ((3, 3) ∷ (7, 1) ∷ [])) (first_job 0) 1 4
  pub tenth : HasChance (alone 5 ((3, 9) ∷ (7, 1) ∷ [])) (first_job 0) 1 10
  pub finish_at_the_deadline_alone : HasChance (alone 7 ((3, 9) ∷ (7, 1) ∷ [])) (first_job 0) 0 10
  pub eighth : HasChance (pair 7) (first_job 1) 1 8
  -- the second job of the first task is released at the deadline, and is none of the jobs before it
  pub half : HasChance (pair 4) (first_job 1) 2 4
  -- what finishes at 4 isn't preempted by the release at 4
  pub finish_at_a_release : HasChance (pair 5) (first_job 1) 4 8
  pub finish_at_the_deadline : HasChance (pair 8) (first_job 1) 0 8
  pub hyperperiod_of_pair : hyperperiod (pair 7) ≡ 8
  pub hyperperiod_of_three : hyperperiod (task 0 4 4 [] ∷ task 0 6 6 [] ∷ task 0 9 9 [] ∷ []) ≡ 36
  pub jobs_of_pair : jobs_before (pair 7) 8 ≡ first_job 0 ∷ first_job 1 ∷ second_release ∷ []
  pub counts_of_pair : map (job_count pair_sheet) (0 ∷ 1 ∷ []) ≡ 2 ∷ 1 ∷ []
  pub all_jobs_of_pair : all_jobs pair_sheet ≡ 3
  -- twice 12 * (2 + 2 + 2), and the two points of the second release, between 0 and 7, times 7 + 1
  pub work_of_pair : work pair_sheet ≡ 160
  -- H is 10, two of the first task's periods
  pub hyperperiod_in_turn : hyperperiod in_turn ≡ 10
  pub tables_in_turn : map (table_of in_turn) (first_job 0 ∷ second_in_turn ∷ third_in_turn ∷ []) ≡ ((3, 1) ∷ (6, 1) ∷ []) ∷ ((2, 1) ∷ []) ∷ ((3, 1) ∷ (6, 1) ∷ []) ∷ []
  pub jobs_in_turn : jobs_before in_turn 10 ≡ first_job 0 ∷ first_job 1 ∷ second_in_turn ∷ []
  pub first_in_turn : HasChance in_turn (first_job 0) 1 2
  -- after 6 ticks of the first job the second one is done at 8, before its deadline at 10
  pub later_in_turn : HasChance in_turn second_in_turn 0 2
  -- twice 12 * (2 + 1 + 1), and the one point of the second job, between 0 and 9, times 9 + 1
  pub work_in_turn : work (sheet_of in_turn) ≡ 106
  -- eleven tables and a period of 100000: above the limit
  pub long_in_turn : hyperperiod (task_in_turn 0 100000 1 (replicate 11 ((1, 1) ∷ [])) ∷ []) ≡ 1100000
  pub after_2 : left_after 2 ≡ 0 ∷ 4 ∷ 1 ∷ []
  pub after_4 : left_after 4 ≡ 0 ∷ 2 ∷ 1 ∷ []
  pub after_5 : left_after 5 ≡ 0 ∷ 2 ∷ 0 ∷ []
  pub after_7 : left_after 7 ≡ 0 ∷ 0 ∷ 0 ∷ []
  pub finish_of_first : IsFinish (0 ∷ 1 ∷ []) start (first_job 0) 2
  pub finish_of_low : IsFinish (0 ∷ 1 ∷ []) start (first_job 1) 7
  pub finish_of_second : IsFinish (0 ∷ 1 ∷ []) start second_release 5
