-- Jobs with their times, as two lists side by side, and the ranges in which no sum of times is too large.
use Rattle.std.specs.Prelude.{◌≡◌, ℕ, ◌*◌, ◌^◌, ◌<◌, ◌≤◌, Bool, List, length, map, filter, zip, slice_index_or, All, AllPairs}
use Rattle.prta_sheet.specs.declared.limits.TheConstants.{TASK_LIMIT, TIME_LIMIT}
use Rattle.prta_sheet.specs.Sheet.{Task}
use Rattle.prta_sheet.specs.Job.{Job, jobs_before}
use Rattle.prta_sheet.specs.Assignment.{Timed}
use Rattle.prta_jobs.specs.TaskSet.{holds}

-- jobs with their times, the i-th with the i-th time
abbrev pub timed_jobs : List Job → List ℕ → List Timed
timed_jobs jobs times = map (λ pair. record { job = pair.0; time = pair.1 }) (zip jobs times)

-- of jobs with their times, those of the tasks in a set
abbrev pub jobs_in : List Bool → List Timed → List Timed
jobs_in set jobs = filter (λ e. holds set e.job.task) jobs

-- the i-th job; past the list, one of task 0 at time 0
abbrev pub job_at : List Job → ℕ → Job
job_at jobs i = slice_index_or jobs i (record { task = 0; number = 0; release = 0 })

-- all jobs of the tasks before some time, of at most 2^32 ticks
abbrev pub AreAllBefore : List Task → List Job → Type 0
AreAllBefore tasks jobs = (t : ℕ) × (t ≤ 2 ^ 32) × (jobs ≡ jobs_before tasks t)

-- the number is a time of a job on a sheet
abbrev pub IsTime : ℕ → Type 0
IsTime time = (1 ≤ time) × (time ≤ TIME_LIMIT)

-- the jobs are so few and so early, and listed by release, as all jobs of a sheet before such a time
pub record IsJobList (jobs : List Job) : Type 0 where
  pub tasks : All (λ job. job.task < TASK_LIMIT) jobs
  pub releases : All (λ job. job.release < 2 ^ 32) jobs
  pub in_order : AllPairs (λ a b. a.release ≤ b.release) jobs
  pub few : length jobs ≤ TASK_LIMIT * 2 ^ 32
