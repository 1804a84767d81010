-- Worked texts of `analyse`, `ledger`, `check` and `bench`.
use Rattle.std.specs.Prelude.{◌≡◌, ℕ, None, List, [], ◌∷◌, ◌++◌, codes}
use Rattle.prta_sheet.specs.Sheet.{Task, Sheet}
use Rattle.prta_report.specs.Analysis.{analyse_text, csv_text, ledger_text, check_text, bench_text}
use Rattle.prta_report.specs.WorkedTraces.{named}

abbrev pub capped : ℕ → List Task → Sheet
capped cap tasks = record { settings = record { cap = cap; hyperperiods = 1; turns = 16; support = None }; tasks = tasks }

-- one task of period 10 that takes 7 ticks, past its deadline of 5, in one case, and 3 ticks in some others
abbrev pub alone : ℕ → ℕ × ℕ → Sheet
alone others allow = capped 12 (record (named (codes "A") 0 10 5 ((3, others) ∷ (7, 1) ∷ [])) { allow = allow } ∷ [])

-- a task of period 4, in one of three cases of 2 ticks, above one of period 8 that it delays
abbrev pub delayed : Sheet
delayed = capped 9 (named (codes "A") 0 4 4 ((1, 2) ∷ (2, 1) ∷ []) ∷ named (codes "B") 0 8 7 ((2, 1) ∷ (4, 1) ∷ []) ∷ [])

pub record WorkedTexts : Type 0 where
  -- both numbers are the exact chance
  pub exact : analyse_text (alone 3 (0, 1)) ≡
      codes "prta analyse 1\n"
      ++ codes "hyperperiod 10 jobs 1\n"
      ++ codes "job A 0 release 0 deadline 5 lower 288230376151711744 0.250000000000 upper 288230376151711744 0.250000000000\n"
      ++ codes "end\n"
  -- the same for a spreadsheet
  pub records : csv_text (alone 3 (0, 1)) ≡
      codes "task,job,release,deadline,lower,upper\n"
      ++ codes "A,0,0,5,288230376151711744,288230376151711744\n"
  -- a task's entries before its sums, Up before Down, and a delay after the additions before it
  pub delayed : ledger_text delayed ≡
      codes "prta ledger 1\n"
      ++ codes "hyperperiod 8 jobs 3\n"
      ++ codes "entry up round A 0 1 1\n" ++ codes "entry up round A 1 2 1\n"
      ++ codes "entry down round A 0 1 1\n" ++ codes "entry down round A 1 2 1\n"
      ++ codes "gap A 0 lower 0 upper 0 sum 2\n" ++ codes "gap A 1 lower 0 upper 0 sum 4\n"
      ++ codes "entry up round B 0 1 1\n" ++ codes "entry up delay B 0 1 1\n"
      ++ codes "entry down round B 0 1 1\n" ++ codes "entry down round B 0 2 1\n" ++ codes "entry down delay B 0 1 1\n"
      ++ codes "gap B 0 lower 64051194700380387 upper 64051194700380388 sum 5\n"
      ++ codes "end\n"
  -- one rounding in each direction
  pub amounts : bench_text (alone 9 (0, 1)) ≡
      codes "prta bench 1\n"
      ++ codes "tasks 1 jobs 1 entries 2 certified 1\n"
      ++ codes "lower 115292150460684697 upper 115292150460684698\n"
      ++ codes "end\n"
  -- the upper number is rounded up, just past the allowance
  pub fails : check_text (alone 9 (1, 10)) ≡ codes "prta check 1\n" ++ codes "no A 0 upper 115292150460684698 allow 1 10\n"
  -- the upper number is just the allowance
  pub passes : check_text (alone 3 (1, 4)) ≡ codes "prta check 1\n" ++ codes "yes\n"
