-- Schedule to backlog: where the machine of ticks finishes a job is told by one number of backlog.
use Rattle.std.specs.Prelude.{◌≡◌, ℕ, ◌≤◌, true, nat_lt, List, length, All, Contains}
use Rattle.prta_sheet.specs.Sheet.{Task}
use Rattle.prta_sheet.specs.Job.{Job, jobs_before}
use Rattle.prta_sheet.specs.Assignment.{Timed}
use Rattle.prta_sheet.specs.Weights.{jobs_of}
use Rattle.prta_sheet.specs.Machine.{misses, IsFinish}
use Rattle.prta_jobs.specs.Permutation.{is_order}
use Rattle.prta_jobs.specs.Backlog.{level_jobs, finish_by_backlog}

-- the machine starts with all jobs of the tasks before t, each with a time of at least 1, under an order of the tasks; the job is one of them
pub record IsListed (tasks : List Task) (t : ℕ) (order : List ℕ) (start : List Timed) (job : Job) : Type 0 where
  pub whole : jobs_of start ≡ jobs_before tasks t
  pub take_time : All (λ e. 1 ≤ e.time) start
  pub permutation : is_order (length tasks) order ≡ true
  pub listed : Contains (jobs_before tasks t) job

pub record ScheduleToBacklog : Type 0 where
  -- the job finishes at its finish by backlog, and at no other time
  pub finish : (tasks : List Task) (t : ℕ) (order : List ℕ) (start : List Timed) (job : Job) → IsListed tasks t order start job →
      IsFinish order start job (finish_by_backlog order start job)
  pub only : (tasks : List Task) (t : ℕ) (order : List ℕ) (start : List Timed) (job : Job) → IsListed tasks t order start job →
      (n : ℕ) → IsFinish order start job n → n ≡ finish_by_backlog order start job
  -- so it misses just where that is above its absolute deadline
  pub miss : (tasks : List Task) (t : ℕ) (order : List ℕ) (start : List Timed) (job : Job) → IsListed tasks t order start job →
      (deadline : ℕ) → misses order job deadline start ≡ nat_lt deadline (finish_by_backlog order start job)
  -- the finish by backlog reads just the jobs of its own task and of the tasks above it
  pub level : (order : List ℕ) (start : List Timed) (job : Job) → finish_by_backlog order (level_jobs order job.task start) job ≡ finish_by_backlog order start job
  -- so while these keep their times, the machine finishes it at the same time, whatever the other jobs take
  pub others : (tasks : List Task) (t : ℕ) (order : List ℕ) (start other : List Timed) (job : Job) →
      IsListed tasks t order start job → IsListed tasks t order other job → level_jobs order job.task start ≡ level_jobs order job.task other →
      (n : ℕ) → IsFinish order start job n → IsFinish order other job n
