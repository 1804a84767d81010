-- How many jobs a sheet has.
use Rattle.std.specs.Prelude.{ℕ, ◌+◌, ◌-◌, ◌/◌, nat_le, nat_eq, if◌then◌else◌, length, filter}
use Rattle.prta_sheet.specs.Sheet.{Task, Sheet}
use Rattle.prta_sheet.specs.Job.{analysed_jobs}

-- the number of analysed jobs of a task
abbrev pub job_count : Sheet → ℕ → ℕ
job_count sheet i = length (filter (λ job. nat_eq job.task i) (analysed_jobs sheet))

-- the number of all analysed jobs
abbrev pub all_jobs : Sheet → ℕ
all_jobs sheet = length (analysed_jobs sheet)

-- how often a task releases before t: at its offset, and once for each whole period from there to t - 1
abbrev pub releases : Task → ℕ → ℕ
releases task t = if nat_le t task.offset then 0 else (t - task.offset - 1) / task.period + 1
