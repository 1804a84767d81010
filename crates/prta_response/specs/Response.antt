-- Response runs: from a level's list right after the addition of an own job's table to the number of the job.
use Rattle.std.specs.Prelude.{ℕ, suc, ◌+◌, ◌-◌, Option, List, fold, take}
use Rattle.prta_mass.specs.Unit.{unit}
use Rattle.prta_mass.specs.Table.{Table}
use Rattle.prta_mass.specs.Chances.{at, point}
use Rattle.prta_mass.specs.declared.direction.Dir.{Dir}
use Rattle.prta_mass.specs.declared.support.Support.{Support}
use Rattle.prta_sheet.specs.Sheet.{Task, Sheet, task_at}
use Rattle.prta_sheet.specs.Job.{Job, table_of}
use Rattle.prta_preempt.specs.Delay.{delayed}
use Rattle.prta_backlog.specs.Level.{Level, delaying}
use Rattle.prta_backlog.specs.LevelRun.{level_run}

-- delays by some jobs, one after the other, of a response that is counted from the release r
abbrev pub all_delayed : Dir → (Job → Table) → ℕ → List Job → List ℕ → List ℕ
all_delayed dir table r jobs cells = fold (λ cells job. delayed dir (table job) (job.release - r) cells) cells jobs

-- the higher jobs that delay the own job released at r: those released strictly between r and its absolute deadline
abbrev pub delaying_jobs : List Task → Level → ℕ → List Job
delaying_jobs tasks level r = delaying tasks level r (task_at tasks level.own).deadline

-- the cells 0 to the deadline of a list, with which the response run starts
abbrev pub first_cells : List Task → Level → List ℕ → List ℕ
first_cells tasks level start = take ((task_at tasks level.own).deadline + 1) start

-- the response run of the own job released at r, from the list right after its addition
abbrev pub response : Dir → List Task → Level → ℕ → List ℕ → List ℕ
response dir tasks level r start = all_delayed dir (table_of tasks) r (delaying_jobs tasks level r) (first_cells tasks level start)

-- its cell at the deadline: the chance that the job meets it, in units of 2^-60
abbrev pub meeting_cell : Dir → List Task → Level → ℕ → List ℕ → ℕ
meeting_cell dir tasks level r start = at (response dir tasks level r start) (task_at tasks level.own).deadline

-- the list of a level run from a list at a base time, right after the instant n ticks later
abbrev pub response_start : Dir → List Task → Level → Option Support → List ℕ → ℕ → ℕ → List ℕ
response_start dir tasks level support start base n = (level_run dir tasks level support start base (suc n)).cells

-- the number of the own job released at base + n, in a level run from a list at the base time: what its cell at the deadline leaves to the unit
abbrev pub number_from : Dir → List Task → Level → Option Support → List ℕ → ℕ → ℕ → ℕ
number_from dir tasks level support start base n = unit - meeting_cell dir tasks level (base + n) (response_start dir tasks level support start base n)

-- the number of an own job in an analysis: the level run starts with the point at 0 at time 0 and re-samples where the sheet has a support
abbrev pub number_of : Dir → Sheet → Level → Job → ℕ
number_of dir sheet level job = number_from dir sheet.tasks level sheet.settings.support (point sheet.settings.cap 0) 0 job.release
