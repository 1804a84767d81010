-- The generator: a sheet for each seed and number of tasks.
use Rattle.std.specs.Prelude.{ℕ, zero, suc, ◌+◌, ◌*◌, ◌/◌, ◌%◌, ◌^◌, None, List, [], ◌∷◌, ◌++◌, codes, decimal}
use Rattle.prta_mass.specs.Table.{Table}
use Rattle.prta_sheet.specs.Sheet.{Task, Sheet}

-- each draw steps the state, a number of 32 bits
abbrev pub next_state : ℕ → ℕ
next_state x = (x * 69069 + 1) % 2 ^ 32

-- what a draw below n gives, of the state after its step
abbrev pub drawn : ℕ → ℕ → ℕ
drawn n x = x / 65536 % n

-- the state after n draws
abbrev pub state_after : ℕ → ℕ → ℕ
state_after zero x = x
state_after (suc n) x = state_after n (next_state x)

-- n points after a time, from a state on: for each a draw below 3, plus 1, is added to the time, and a draw below 100, plus 1, is the weight
abbrev pub points_from : ℕ → ℕ → ℕ → Table
points_from zero time x = []
points_from (suc n) time x =
    (time + (drawn 3 (state_after 1 x) + 1), drawn 100 (state_after 2 x) + 1)
    ∷ points_from n (time + (drawn 3 (state_after 1 x) + 1)) (state_after 2 x)

-- of a task's draws the first gives the period, the second the offset, the third the number of points
abbrev pub drawn_period : ℕ → ℕ
drawn_period x = 50 * 2 ^ drawn 4 (state_after 1 x)

abbrev pub drawn_offset : ℕ → ℕ
drawn_offset x = drawn (drawn_period x) (state_after 2 x)

abbrev pub drawn_count : ℕ → ℕ
drawn_count x = drawn 19 (state_after 3 x) + 2

-- task i, drawn from a state on
abbrev pub drawn_task : ℕ → ℕ → Task
drawn_task i x = record {
  name = codes "t" ++ decimal i;
  offset = drawn_offset x;
  period = drawn_period x;
  deadline = drawn_period x;
  cycle = points_from (drawn_count x) 0 (state_after 3 x) ∷ [];
  allow = (1, 1000);
}

-- the state after a task's draws
abbrev pub after_task : ℕ → ℕ
after_task x = state_after (3 + 2 * drawn_count x) x

-- n tasks, counted from i, drawn from a state on
abbrev pub drawn_tasks : ℕ → ℕ → ℕ → List Task
drawn_tasks i zero x = []
drawn_tasks i (suc n) x = drawn_task i x ∷ drawn_tasks (i + 1) n (after_task x)

-- the state starts as the seed modulo 2^32
abbrev pub generated : ℕ → ℕ → Sheet
generated seed n = record {
  settings = record { cap = 2048; hyperperiods = 4; turns = 16; support = None };
  tasks = drawn_tasks 0 n (seed % 2 ^ 32);
}
