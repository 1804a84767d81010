-- The state of the machine: the model's state with listed jobs after some ticks.
use Rattle.std.specs.Prelude.{◌≡◌, ℕ, ◌<◌, ◌≤◌, ◌^◌, Option, List, length, position, slice_index}
use Rattle.prta_sheet.specs.Job.{Job}
use Rattle.prta_sheet.specs.Assignment.{Timed}
use Rattle.prta_sheet.specs.Machine.{is_served, after, IsFinish}
use Rattle.prta_ticksim.specs.Times.{timed_jobs, job_at}
use Rattle.prta_ticksim.specs.Serving.{AreApart}

-- what a contract sees of a machine: the order of priorities, the jobs with the times assigned to them, the time up to which it
-- runs, and the number of ticks that it has made
pub record MachineParts : Type 0 where
  pub order : List ℕ
  pub jobs : List Job
  pub times : List ℕ
  pub horizon : ℕ
  pub ticks : ℕ

-- the model's state at the start, and after n ticks
abbrev pub start_of : MachineParts → List Timed
start_of machine = timed_jobs machine.jobs machine.times

abbrev pub state_after : MachineParts → ℕ → List Timed
state_after machine n = after machine.order (start_of machine) n

-- the place among the jobs of the one that runs in tick t, if one does
abbrev pub running : MachineParts → ℕ → Option ℕ
running machine t = position (is_served machine.order t (state_after machine t)) (state_after machine t)

-- what holds of the parts that a machine keeps
pub record IsMachine (order : List ℕ) (jobs : List Job) (times left ends : List ℕ) (horizon now : ℕ) : Type 0 where
  pub times_each : length times ≡ length jobs
  pub left_each : length left ≡ length jobs
  pub ends_each : length ends ≡ length jobs
  pub apart : AreApart order jobs
  pub state : timed_jobs jobs left ≡ after order (timed_jobs jobs times) now
  pub finished : (i : ℕ) → i < length jobs → slice_index left i ≡ 0 → IsFinish order (timed_jobs jobs times) (job_at jobs i) (slice_index ends i)
  pub within : now ≤ horizon
  pub near : horizon ≤ 2 ^ 32
