-- The work of a sheet: a stated number, without a unit.
use Rattle.std.specs.Prelude.{ℕ, ◌+◌, ◌-◌, ◌*◌, ◌/◌, ◌%◌, ◌<◌, ◌≤◌, ◌&&◌, not, nat_eq, nat_lt, if◌then◌else◌, List, length, take, filter, sum_by}
use Rattle.std.specs.List.{range_with_len}
use Rattle.prta_sheet.specs.Sheet.{Task, Sheet, task_at}
use Rattle.prta_sheet.specs.Job.{Job, table_of, deadline_of, jobs_before, analysed_jobs}
use Rattle.prta_sheet.specs.Counts.{releases}

-- the points of a job: how many times its table has
abbrev pub points_of : List Task → Job → ℕ
points_of tasks job = length (table_of tasks job)

-- the jobs of other tasks released strictly between the job's release and its absolute deadline
abbrev pub between : List Task → Job → List Job
between tasks job = filter (λ other. not (nat_eq other.task job.task) && nat_lt job.release other.release) (jobs_before tasks (deadline_of tasks job))

-- what a job gives: the points of the jobs between, deadline + 1 times
abbrev pub job_work : List Task → Job → ℕ
job_work tasks job = ((task_at tasks job.task).deadline + 1) * sum_by (points_of tasks) (between tasks job)

-- the number of a task: the cap times the points of all analysed jobs, and what its own analysed jobs give
abbrev pub task_work : Sheet → ℕ → ℕ
task_work sheet i =
    sheet.settings.cap * sum_by (points_of sheet.tasks) (analysed_jobs sheet)
    + sum_by (job_work sheet.tasks) (filter (λ job. nat_eq job.task i) (analysed_jobs sheet))

-- the sum of the numbers of the tasks
abbrev pub work : Sheet → ℕ
work sheet = sum_by (task_work sheet) (range_with_len 0 (length sheet.tasks))

-- ---- in closed form

-- the points of a task's first jobs, n of them
abbrev pub points_of_first : Task → ℕ → ℕ
points_of_first task n = n / length task.cycle * sum_by length task.cycle + sum_by length (take (n % length task.cycle) task.cycle)

-- the points of the jobs that task m releases after one time and before another; none where it is task i
abbrev pub points_of_other : List Task → ℕ → ℕ → ℕ → ℕ → ℕ
points_of_other tasks i after until m =
    let task = task_at tasks m in
    if nat_eq m i then 0 else points_of_first task (releases task until) - points_of_first task (releases task (after + 1))

-- the ranges of a task in which no sum is too large
pub record IsSmall (task : Task) : Type 0 where
  pub period : 1 ≤ task.period
  pub offset : task.offset < task.period
  pub deadline : task.deadline < 16384
  pub some_tables : 1 ≤ length task.cycle
  pub few_tables : length task.cycle ≤ 16
