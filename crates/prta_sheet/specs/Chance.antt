-- The exact chance of a miss, by the weights of all assignments run tick by tick.
use Rattle.std.specs.Prelude.{ℕ, ◌*◌, ◌≤◌, List, filter, sum_by}
use Rattle.prta_mass.specs.Unit.{unit}
use Rattle.prta_sheet.specs.Sheet.{Task}
use Rattle.prta_sheet.specs.Job.{Job, table_of, deadline_of, jobs_before}
use Rattle.prta_sheet.specs.Assignment.{assignments, weight_of, times_of, total_of}
use Rattle.prta_sheet.specs.Machine.{misses}

-- the jobs that an assignment gives times to: all those released before the job's absolute deadline
abbrev pub jobs_until : List Task → Job → List Job
jobs_until tasks job = jobs_before tasks (deadline_of tasks job)

-- the sum of the weights of the assignments under which the job misses
abbrev pub miss_weight : List Task → List ℕ → Job → ℕ
miss_weight tasks order job =
    sum_by weight_of (filter (λ a. misses order job (deadline_of tasks job) (times_of a)) (assignments (table_of tasks) (jobs_until tasks job)))

-- the sum of the weights of all assignments, as a product; the exact chance is the miss weight over it
abbrev pub chance_total : List Task → Job → ℕ
chance_total tasks job = total_of (table_of tasks) (jobs_until tasks job)

-- two numbers, in units of 2^-60, are around the exact chance that the job misses
pub record IsAround (tasks : List Task) (order : List ℕ) (job : Job) (lower upper : ℕ) : Type 0 where
  pub below : lower * chance_total tasks job ≤ unit * miss_weight tasks order job
  pub above : unit * miss_weight tasks order job ≤ upper * chance_total tasks job
