-- Worked runs of the machine, and worked files of choices.
use Rattle.std.specs.Prelude.{◌≡◌, ℕ, Option, Some, None, List, [], ◌∷◌, ◌++◌, map, codes}
use Rattle.std.specs.List.{range_with_len}
use Rattle.std.specs.Str.Lines.{lines}
use Rattle.prta_sheet.specs.Sheet.{Sheet}
use Rattle.prta_sheet.specs.Job.{analysed_jobs}
use Rattle.prta_sheet.specs.Worked.{task, pair_sheet}
use Rattle.prta_ticksim.specs.Machine.{MachineParts, state_after, running}
use Rattle.prta_ticksim.specs.Start.{machine_of, first_foreign}
use Rattle.prta_number.specs.Decimal.{value_of}
use Rattle.prta_ticksim.specs.Choices.{bad_line}

-- a task of period 4 above a task of period 8, in the sheet's order: of their jobs, the first of each is released at 0, and the second of
-- the first task at 4
abbrev pub pair_machine : List ℕ → MachineParts
pair_machine times = machine_of pair_sheet (0 ∷ 1 ∷ []) times

-- one task of period 4 that may take 6 ticks, over three periods
abbrev pub late_sheet : Sheet
late_sheet = record { settings = record { cap = 12; hyperperiods = 3; turns = 16; support = None }; tasks = task 0 4 4 ((1, 1) ∷ (6, 1) ∷ []) ∷ [] }

abbrev pub late_machine : MachineParts
late_machine = machine_of late_sheet (0 ∷ []) (6 ∷ 6 ∷ 1 ∷ [])

-- one task of period 4 whose every second job takes 3 ticks, over its first hyperperiod, which has both
abbrev pub turns_sheet : Sheet
turns_sheet = record {
  settings = record { cap = 12; hyperperiods = 1; turns = 16; support = None };
  tasks = record (task 0 4 4 []) { cycle = ((1, 1) ∷ []) ∷ ((3, 1) ∷ []) ∷ [] } ∷ [];
}

-- what runs in the first n ticks
abbrev pub runs_until : MachineParts → ℕ → List (Option ℕ)
runs_until machine n = map (running machine) (range_with_len 0 n)

pub record WorkedRuns : Type 0 where
  -- the second job of the first task preempts the other one
  pub preempted : runs_until (pair_machine (2 ∷ 4 ∷ 1 ∷ [])) 8 ≡ Some 0 ∷ Some 0 ∷ Some 1 ∷ Some 1 ∷ Some 2 ∷ Some 1 ∷ Some 1 ∷ None ∷ []
  -- what finishes at its release isn't preempted
  pub done_before : runs_until (pair_machine (2 ∷ 2 ∷ 1 ∷ [])) 8 ≡ Some 0 ∷ Some 0 ∷ Some 1 ∷ Some 1 ∷ Some 2 ∷ None ∷ None ∷ None ∷ []
  pub other_order : runs_until (machine_of pair_sheet (1 ∷ 0 ∷ []) (2 ∷ 4 ∷ 1 ∷ [])) 8 ≡ Some 1 ∷ Some 1 ∷ Some 1 ∷ Some 1 ∷ Some 0 ∷ Some 0 ∷ Some 2 ∷ None ∷ []
  -- a late job runs on, and delays the next job of its own task; the last one is left at the horizon
  pub late : runs_until late_machine 12 ≡ Some 0 ∷ Some 0 ∷ Some 0 ∷ Some 0 ∷ Some 0 ∷ Some 0 ∷ Some 1 ∷ Some 1 ∷ Some 1 ∷ Some 1 ∷ Some 1 ∷ Some 1 ∷ []
  pub left : map (λ e. e.time) (state_after late_machine 12) ≡ 0 ∷ 0 ∷ 1 ∷ []
  pub in_tables : first_foreign pair_sheet.tasks (analysed_jobs pair_sheet) (2 ∷ 4 ∷ 1 ∷ []) ≡ None
  -- the second time is none of its own table, and the third one of the other table alone
  pub not_in_table : first_foreign pair_sheet.tasks (analysed_jobs pair_sheet) (2 ∷ 3 ∷ 4 ∷ []) ≡ Some 1
  pub of_another_table : first_foreign pair_sheet.tasks (analysed_jobs pair_sheet) (2 ∷ 4 ∷ 4 ∷ []) ≡ Some 2

-- each job has a time of the table of its own number
pub record WorkedTurns : Type 0 where
  pub two_jobs : map (λ job. job.release) (analysed_jobs turns_sheet) ≡ 0 ∷ 4 ∷ []
  pub in_turn : first_foreign turns_sheet.tasks (analysed_jobs turns_sheet) (1 ∷ 3 ∷ []) ≡ None
  pub first_table_again : first_foreign turns_sheet.tasks (analysed_jobs turns_sheet) (1 ∷ 1 ∷ []) ≡ Some 1
  pub out_of_turn : first_foreign turns_sheet.tasks (analysed_jobs turns_sheet) (3 ∷ 1 ∷ []) ≡ Some 0

abbrev pub feed : List ℕ
feed = 10 ∷ []

abbrev pub return_and_feed : List ℕ
return_and_feed = 13 ∷ 10 ∷ []

pub record WorkedChoices : Type 0 where
  pub all_ended : map value_of (lines (codes "2" ++ feed ++ codes "4" ++ feed ++ codes "1" ++ feed)) ≡ 2 ∷ 4 ∷ 1 ∷ []
  pub last_not_ended : map value_of (lines (codes "2" ++ return_and_feed ++ codes "40" ++ feed ++ codes "1")) ≡ 2 ∷ 40 ∷ 1 ∷ []
  pub no_line : lines [] ≡ []
  pub good : bad_line (codes "2" ++ return_and_feed ++ codes "40" ++ feed ++ codes "1") ≡ None
  pub no_bad_line : bad_line [] ≡ None
  pub no_digit : bad_line (codes "2" ++ feed ++ codes "x" ++ feed ++ codes "1") ≡ Some 2
  pub empty_line : bad_line (codes "2" ++ feed ++ feed) ≡ Some 2
  pub only_a_return : bad_line (codes "2" ++ 13 ∷ []) ≡ Some 1
  pub zero : bad_line (codes "0") ≡ Some 1
  pub leading_zero : bad_line (codes "02") ≡ Some 1
  pub largest : bad_line (codes "1000000") ≡ None
  pub too_large : bad_line (codes "1000001") ≡ Some 1
  pub sign : bad_line (codes "+2") ≡ Some 1
