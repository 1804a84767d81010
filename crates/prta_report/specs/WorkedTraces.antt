-- Worked texts of `simulate`.
use Rattle.std.specs.Prelude.{◌≡◌, ℕ, None, List, [], ◌∷◌, ◌++◌, codes}
use Rattle.prta_mass.specs.Table.{Table}
use Rattle.prta_sheet.specs.Sheet.{Task, Sheet}
use Rattle.prta_report.specs.Trace.{simulate_text}

abbrev pub named : List ℕ → ℕ → ℕ → ℕ → Table → Task
named name offset period deadline table = record { name = name; offset = offset; period = period; deadline = deadline; cycle = table ∷ []; allow = (0, 1) }

abbrev pub sheet_of : ℕ → List Task → Sheet
sheet_of hyperperiods tasks = record { settings = record { cap = 2048; hyperperiods = hyperperiods; turns = 16; support = None }; tasks = tasks }

-- a task of period 4 above a task of period 8
abbrev pub pair : Sheet
pair = sheet_of 1 (named (codes "A") 0 4 4 ((1, 1) ∷ (2, 1) ∷ []) ∷ named (codes "B") 0 8 7 ((2, 1) ∷ (4, 1) ∷ []) ∷ [])

-- one task of period 4 that may take 6 ticks, over three periods
abbrev pub late : Sheet
late = sheet_of 3 (named (codes "A") 0 4 4 ((1, 1) ∷ (6, 1) ∷ []) ∷ [])

-- one task whose job has its deadline after the horizon
abbrev pub beyond : Sheet
beyond = sheet_of 1 (named (codes "A") 2 4 3 ((1, 3) ∷ (4, 1) ∷ []) ∷ [])

pub record WorkedTraces : Type 0 where
  -- the second job of the first task preempts the other one
  pub preempted : simulate_text pair (2 ∷ 4 ∷ 1 ∷ []) ≡
      codes "prta simulate 1\n"
      ++ codes "run 0 2 A 0\n" ++ codes "run 2 4 B 0\n" ++ codes "run 4 5 A 1\n" ++ codes "run 5 7 B 0\n" ++ codes "idle 7 8\n"
      ++ codes "job A 0 finish 2 met\n" ++ codes "job B 0 finish 7 met\n" ++ codes "job A 1 finish 5 met\n"
      ++ codes "end\n"
  -- what finishes at its release isn't preempted
  pub done_before : simulate_text pair (2 ∷ 2 ∷ 1 ∷ []) ≡
      codes "prta simulate 1\n"
      ++ codes "run 0 2 A 0\n" ++ codes "run 2 4 B 0\n" ++ codes "run 4 5 A 1\n" ++ codes "idle 5 8\n"
      ++ codes "job A 0 finish 2 met\n" ++ codes "job B 0 finish 4 met\n" ++ codes "job A 1 finish 5 met\n"
      ++ codes "end\n"
  -- late jobs run on, and delay the next job of their own task; the last one is left, its deadline at the horizon
  pub late : simulate_text late (6 ∷ 6 ∷ 1 ∷ []) ≡
      codes "prta simulate 1\n"
      ++ codes "run 0 6 A 0\n" ++ codes "run 6 12 A 1\n"
      ++ codes "job A 0 finish 6 missed\n" ++ codes "job A 1 finish 12 missed\n" ++ codes "job A 2 left 1 missed\n"
      ++ codes "end\n"
  -- a job is left whose deadline is still to come
  pub pending : simulate_text beyond (4 ∷ []) ≡
      codes "prta simulate 1\n"
      ++ codes "idle 0 2\n" ++ codes "run 2 4 A 0\n"
      ++ codes "job A 0 left 2 pending\n"
      ++ codes "end\n"
