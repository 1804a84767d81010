-- The operations of a level run, and their entries.
use Rattle.std.specs.Prelude.{ℕ, zero, suc, ◌+◌, ◌-◌, ◌*◌, Option, Some, None, not, nat_eq, if◌then◌else◌, List, [], ◌∷◌, ◌++◌, map, filter, length}
use Rattle.std.specs.List.{flat_map, enumerate_from}
use Rattle.prta_mass.specs.declared.direction.Dir.{Dir}
use Rattle.prta_mass.specs.declared.support.Support.{Support}
use Rattle.prta_mass.specs.Table.{Table}
use Rattle.prta_mass.specs.Chances.{point}
use Rattle.prta_sheet.specs.Sheet.{Task, Sheet, task_at, horizon}
use Rattle.prta_sheet.specs.Job.{Job, table_of}
use Rattle.prta_sheet.specs.Counts.{releases}
use Rattle.prta_resample.specs.Resample.{resampled, moved_amount}
use Rattle.prta_dist.specs.Addition.{added, is_rounded, cut_amount}
use Rattle.prta_ledger.specs.declared.entry.Entry.{Entry}
use Rattle.prta_ledger.specs.declared.entry.Kind.{Kind}
use Rattle.prta_ledger.specs.declared.entry.Kind.TheVariants.{Round, Cut, Resample}
use Rattle.prta_backlog.specs.Level.{Level, level_at, is_quiet}
use Rattle.prta_backlog.specs.LevelRun.{RunState, found_at, level_run}

-- what one operation did: an amount for each kind that it can have, 0 where it did nothing of that kind
abbrev pub Operation : Type 0
Operation = List (Kind × ℕ)

-- the addition of a table
abbrev pub addition : Dir → Table → List ℕ → Operation
addition dir table cells = (Round, if is_rounded table cells then 1 else 0) ∷ (Cut, cut_amount dir table cells) ∷ []

-- the additions of the tables of some jobs, in order
abbrev pub additions : Dir → (Job → Table) → List Job → List ℕ → List Operation
additions dir table [] cells = []
additions dir table (job ∷ jobs) cells = addition dir (table job) cells ∷ additions dir table jobs (added dir (table job) cells)

-- a re-sampling, where the next instant makes one
abbrev pub samplings : Dir → Option Support → RunState → List Operation
samplings dir None run = []
samplings dir (Some support) run = if run.begun then ((Resample, moved_amount run.cells (resampled dir support run.cells)) ∷ []) ∷ [] else []

-- the operations of an instant at a time, in the order in which they are made
abbrev pub operations_of : Dir → List Task → Level → Option Support → RunState → ℕ → List Operation
operations_of dir tasks level support run t =
    samplings dir support run ++ additions dir (table_of tasks) (level_at tasks level t) (found_at dir support run t)

-- the operations of a level run from time 0 on at a time; none where it is no instant
abbrev pub operations_at : Dir → List Task → Level → Option Support → List ℕ → ℕ → List Operation
operations_at dir tasks level support start t =
    if is_quiet tasks level t then [] else operations_of dir tasks level support (level_run dir tasks level support start 0 t) t

-- and those before a time
abbrev pub operations : Dir → List Task → Level → Option Support → List ℕ → ℕ → List Operation
operations dir tasks level support start zero = []
operations dir tasks level support start (suc t) = operations dir tasks level support start t ++ operations_at dir tasks level support start t

-- an amount as an entry
abbrev pub entry_of : Dir → ℕ → ℕ → ℕ → Kind × ℕ → Entry
entry_of dir task job op amount = record { dir = dir; kind = amount.0; task = task; job = job; op = op; amount = amount.1 }

-- the entries of one operation: one for each amount that isn't 0
abbrev pub entries_of : Dir → ℕ → ℕ → ℕ → Operation → List Entry
entries_of dir task job op operation = map (entry_of dir task job op) (filter (λ amount. not (nat_eq amount.1 0)) operation)

-- the entries of operations, numbered from a number on; an operation without an entry keeps its number
abbrev pub noted : Dir → ℕ → ℕ → ℕ → List Operation → List Entry
noted dir task job from operations = flat_map (λ numbered. entries_of dir task job numbered.0 numbered.1) (enumerate_from from operations)

-- the job that an entry at a time names: the first own job released at or after it, whose number is how many were released before
abbrev pub named_job : List Task → Level → ℕ → ℕ
named_job tasks level t = releases (task_at tasks level.own) t

-- the entries of operations at a time, numbered from a number on
abbrev pub noted_at : Dir → List Task → Level → ℕ → ℕ → List Operation → List Entry
noted_at dir tasks level t from operations = noted dir level.own (named_job tasks level t) from operations

-- the entries of a level run at a time: its operations are numbered from 1 on through the whole run
abbrev pub level_entries_at : Dir → List Task → Level → Option Support → List ℕ → ℕ → List Entry
level_entries_at dir tasks level support start t =
    noted_at dir tasks level t (1 + length (operations dir tasks level support start t)) (operations_at dir tasks level support start t)

-- and those before a time
abbrev pub level_entries : Dir → List Task → Level → Option Support → List ℕ → ℕ → List Entry
level_entries dir tasks level support start zero = []
level_entries dir tasks level support start (suc t) = level_entries dir tasks level support start t ++ level_entries_at dir tasks level support start t

-- just after the release of the last analysed own job, up to which an analysis runs a level; 0 where there is none
abbrev pub run_end : Task → ℕ → ℕ
run_end task horizon = if nat_eq (releases task horizon) 0 then 0 else task.offset + (releases task horizon - 1) * task.period + 1

-- the entries of the level run of an analysis, in one direction: it starts with the point at 0
abbrev pub analysis_entries : Dir → Sheet → Level → List Entry
analysis_entries dir sheet level =
    level_entries dir sheet.tasks level sheet.settings.support (point sheet.settings.cap 0) (run_end (task_at sheet.tasks level.own) (horizon sheet))
