-- Jobs that are released at or after a deadline don't change a miss: so of all jobs before a time, those that the exact chance gives times to
-- decide it.
use Rattle.std.specs.Prelude.{◌≡◌, ℕ, ◌<◌, ◌≤◌, nat_lt, List, filter}
use Rattle.prta_sheet.specs.Sheet.{Task}
use Rattle.prta_sheet.specs.Job.{Job, deadline_of, jobs_before}
use Rattle.prta_sheet.specs.Assignment.{Timed}
use Rattle.prta_sheet.specs.Weights.{jobs_of}
use Rattle.prta_sheet.specs.Machine.{misses}
use Rattle.prta_sheet.specs.Chance.{jobs_until}

-- of jobs with their times, those released before a time
abbrev pub released_before : ℕ → List Timed → List Timed
released_before t start = filter (λ e. nat_lt e.job.release t) start

pub record LaterJobsChangeNoMiss : Type 0 where
  -- a job released before a deadline misses it just where it does so with the jobs alone that are released before that deadline
  pub miss : (order : List ℕ) (start : List Timed) (job : Job) (deadline : ℕ) → job.release < deadline →
      misses order job deadline start ≡ misses order job deadline (released_before deadline start)
  -- where the absolute deadline of a job is at or before t, these are of all jobs before t those to which the exact chance of that job's
  -- miss gives times
  pub jobs : (tasks : List Task) (t : ℕ) (start : List Timed) (job : Job) → jobs_of start ≡ jobs_before tasks t → deadline_of tasks job ≤ t →
      jobs_of (released_before (deadline_of tasks job) start) ≡ jobs_until tasks job
