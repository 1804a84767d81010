-- What is answered for times that are to be those of a sheet's analysed jobs.
use Rattle.std.specs.Prelude.{◌≡◌, ◌≢◌, ℕ, Bool, not, nat_eq, Option, Some, None, Result, Ok, Err, List, length, position}
use Rattle.std.specs.List.{list_any}
use Rattle.prta_mass.specs.Table.{Table}
use Rattle.prta_sheet.specs.Sheet.{Task, Sheet, horizon}
use Rattle.prta_sheet.specs.Job.{Job, table_of, analysed_jobs}
use Rattle.prta_sheet.specs.Assignment.{Timed}
use Rattle.prta_ticksim.specs.declared.fault.MachineFault.{MachineFault}
use Rattle.prta_ticksim.specs.declared.fault.MachineFault.TheVariants.{WrongCount, NotInTable, NoMemory}
use Rattle.prta_ticksim.specs.Times.{timed_jobs}
use Rattle.prta_ticksim.specs.Machine.{MachineParts}

-- a table has a time
abbrev pub has_time : Table → ℕ → Bool
has_time table time = list_any (λ pair. nat_eq pair.0 time) table

-- the time of a job isn't in its table
abbrev pub is_foreign : List Task → Timed → Bool
is_foreign tasks e = not (has_time (table_of tasks e.job) e.time)

-- the first place at which it isn't
abbrev pub first_foreign : List Task → List Job → List ℕ → Option ℕ
first_foreign tasks jobs times = position (is_foreign tasks) (timed_jobs jobs times)

-- there is one time for each job
abbrev pub AreAsMany : Sheet → List ℕ → Type 0
AreAsMany sheet times = length times ≡ length (analysed_jobs sheet)

-- the analysed jobs, where each job has a time of its own table; else first the counts, and then the first time that isn't in its
-- job's table; want of memory is free
abbrev pub IsCheckedAnswer : Sheet → List ℕ → Result (List Job) MachineFault → Type 0
IsCheckedAnswer sheet times (Ok jobs) = AreAsMany sheet times × (first_foreign sheet.tasks (analysed_jobs sheet) times ≡ None) × (jobs ≡ analysed_jobs sheet)
IsCheckedAnswer sheet times (Err (WrongCount want got)) = (want ≢ got) × (want ≡ length (analysed_jobs sheet)) × (got ≡ length times)
IsCheckedAnswer sheet times (Err (NotInTable i)) = AreAsMany sheet times × (first_foreign sheet.tasks (analysed_jobs sheet) times ≡ Some i)
IsCheckedAnswer sheet times (Err NoMemory) = Unit {0}

-- the machine before its first tick, with the sheet's analysed jobs
abbrev pub machine_of : Sheet → List ℕ → List ℕ → MachineParts
machine_of sheet order times = record { order = order; jobs = analysed_jobs sheet; times = times; horizon = horizon sheet; ticks = 0 }

-- that machine, or what is wrong with the times
abbrev pub IsMachineAnswer : Sheet → List ℕ → List ℕ → Result MachineParts MachineFault → Type 0
IsMachineAnswer sheet order times (Ok machine) = IsCheckedAnswer sheet times (Ok machine.jobs) × (machine ≡ machine_of sheet order times)
IsMachineAnswer sheet order times (Err fault) = IsCheckedAnswer sheet times (Err fault)
