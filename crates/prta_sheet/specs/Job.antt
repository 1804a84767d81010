-- Jobs: what the tasks release, and when.
use Rattle.std.specs.Prelude.{ℕ, zero, suc, ◌+◌, ◌-◌, ◌*◌, ◌/◌, ◌%◌, Bool, ◌&&◌, nat_le, nat_eq, if◌then◌else◌, List, [], ◌∷◌, ◌++◌}
use Rattle.prta_mass.specs.Table.{Table}
use Rattle.prta_sheet.specs.Sheet.{Task, Sheet, task_at, table_in, horizon}

-- the k-th job of a task, k from 0 on: it is released at offset + k * period
pub record Job : Type 0 where
  pub task : ℕ
  pub number : ℕ
  pub release : ℕ

-- the table of a job: of its task's cycle the one with the job's number modulo the length
abbrev pub table_of : List Task → Job → Table
table_of tasks job = table_in (task_at tasks job.task) job.number

-- the k-th job of task i
abbrev pub nth_job : List Task → ℕ → ℕ → Job
nth_job tasks i k = record { task = i; number = k; release = (task_at tasks i).offset + k * (task_at tasks i).period }

-- the absolute deadline: the release plus the task's deadline
abbrev pub deadline_of : List Task → Job → ℕ
deadline_of tasks job = job.release + (task_at tasks job.task).deadline

-- a task releases a job at time t
abbrev pub is_release : Task → ℕ → Bool
is_release task t = nat_le task.offset t && nat_eq ((t - task.offset) % task.period) 0

-- the job that task i releases at time t, if it releases one
abbrev pub released_by : ℕ → Task → ℕ → List Job
released_by i task t = if is_release task t then record { task = i; number = (t - task.offset) / task.period; release = t } ∷ [] else []

-- the jobs that the tasks, counted from i, release at time t, in the order of the tasks
abbrev pub released_at : ℕ → List Task → ℕ → List Job
released_at i [] t = []
released_at i (task ∷ tasks) t = released_by i task t ++ released_at (i + 1) tasks t

-- all jobs of all tasks released before t, by release and then by task
abbrev pub jobs_before : List Task → ℕ → List Job
jobs_before tasks zero = []
jobs_before tasks (suc t) = jobs_before tasks t ++ released_at 0 tasks t

-- the jobs that are analysed
abbrev pub analysed_jobs : Sheet → List Job
analysed_jobs sheet = jobs_before sheet.tasks (horizon sheet)
