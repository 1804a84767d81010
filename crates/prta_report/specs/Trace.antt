-- The text of `simulate`: what runs when, and how each job stands at the horizon.
use Rattle.std.specs.Prelude.{ℕ, zero, suc, ◌+◌, ◌++◌, nat_eq, nat_le, if◌then◌else◌, option_map, List, [], ◌∷◌, length, flat_map, codes, decimal}
use Rattle.std.specs.Option.{option_eq}
use Rattle.std.specs.List.{position_or_len, range_with_len}
use Rattle.prta_sheet.specs.Sheet.{Task, Sheet, task_at, sheet_order}
use Rattle.prta_sheet.specs.Job.{Job, deadline_of}
use Rattle.prta_sheet.specs.Machine.{remaining}
use Rattle.prta_ticksim.specs.declared.run.Run.{Run}
use Rattle.prta_ticksim.specs.Times.{job_at}
use Rattle.prta_ticksim.specs.Machine.{MachineParts, state_after, running}
use Rattle.prta_ticksim.specs.Start.{machine_of}
use Rattle.prta_report.specs.Text.{run_line}

-- a run put before others: one run with the next where the same job runs in both, or none in either
abbrev pub joined : Run → List Run → List Run
joined run [] = run ∷ []
joined run (next ∷ rest) = if option_eq nat_eq run.who next.who then record run { to = next.to } ∷ rest else run ∷ next ∷ rest

-- the runs of n ticks from t on: each tick is one, joined with what follows
abbrev pub runs_from : MachineParts → ℕ → ℕ → List Run
runs_from machine t zero = []
runs_from machine t (suc n) = joined (record { from = t; to = t + 1; who = running machine t }) (runs_from machine (t + 1) n)

-- the runs from 0 to the horizon
abbrev pub runs_of : MachineParts → List Run
runs_of machine = runs_from machine 0 machine.horizon

-- the line of a run of one of the jobs, or of none
abbrev pub line_of_run : List Task → List Job → Run → List ℕ
line_of_run tasks jobs run = run_line tasks (option_map (job_at jobs) run.who) run.from run.to

-- the time left to the i-th job after n ticks
abbrev pub left_after : MachineParts → ℕ → ℕ → ℕ
left_after machine i n = remaining (job_at machine.jobs i) (state_after machine n)

-- the least number of ticks, up to the horizon, after which none is left to it
abbrev pub finish_of : MachineParts → ℕ → ℕ
finish_of machine i = position_or_len (λ n. nat_eq (left_after machine i n) 0) (range_with_len 0 (machine.horizon + 1))

-- a job that finished, and one that is left at the horizon, by its absolute deadline
unfoldable pub finished_text : ℕ → ℕ → List ℕ
finished_text deadline finish = codes " finish " ++ decimal finish ++ (if nat_le finish deadline then codes " met\n" else codes " missed\n")

unfoldable pub left_text : ℕ → ℕ → ℕ → List ℕ
left_text deadline left horizon = codes " left " ++ decimal left ++ (if nat_le deadline horizon then codes " missed\n" else codes " pending\n")

abbrev pub standing_text : MachineParts → ℕ → ℕ → List ℕ
standing_text machine deadline i =
    if nat_eq (left_after machine i machine.horizon) 0
    then finished_text deadline (finish_of machine i)
    else left_text deadline (left_after machine i machine.horizon) machine.horizon

-- the line of the i-th job
unfoldable pub named_text : List ℕ → ℕ → List ℕ
named_text name number = codes "job " ++ name ++ codes " " ++ decimal number

abbrev pub standing_line : List Task → MachineParts → ℕ → List ℕ
standing_line tasks machine i =
    named_text (task_at tasks (job_at machine.jobs i).task).name (job_at machine.jobs i).number
    ++ standing_text machine (deadline_of tasks (job_at machine.jobs i)) i

-- the text of a machine that has not made a tick yet
abbrev pub trace_text : List Task → MachineParts → List ℕ
trace_text tasks machine =
    codes "prta simulate 1\n"
    ++ flat_map (line_of_run tasks machine.jobs) (runs_of machine)
    ++ flat_map (standing_line tasks machine) (range_with_len 0 (length machine.jobs))
    ++ codes "end\n"

-- the text of `simulate`: the i-th analysed job takes the i-th time, under the sheet's own order of priorities
abbrev pub simulate_text : Sheet → List ℕ → List ℕ
simulate_text sheet times = trace_text sheet.tasks (machine_of sheet (sheet_order sheet.tasks) times)
