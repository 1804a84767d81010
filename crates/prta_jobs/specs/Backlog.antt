-- The finish of a job by one number of backlog, which goes from release to release.
use Rattle.std.specs.Prelude.{ℕ, ◌+◌, ◌-◌, nat_lt, nat_le, if◌then◌else◌, List, [], ◌∷◌, filter}
use Rattle.prta_sheet.specs.Job.{Job}
use Rattle.prta_sheet.specs.Assignment.{Timed}
use Rattle.prta_sheet.specs.Machine.{place}

-- of listed jobs with their times, those of the level of a task: of the task and of the tasks above it
abbrev pub level_jobs : List ℕ → ℕ → List Timed → List Timed
level_jobs order task jobs = filter (λ e. nat_le (place order e.job.task) (place order task)) jobs

-- those of the tasks above it
abbrev pub jobs_above : List ℕ → ℕ → List Timed → List Timed
jobs_above order task jobs = filter (λ e. nat_lt (place order e.job.task) (place order task)) jobs

-- those released at or before t, and those released after t
abbrev pub released_until : ℕ → List Timed → List Timed
released_until t jobs = filter (λ e. nat_le e.job.release t) jobs

abbrev pub released_after : ℕ → List Timed → List Timed
released_after t jobs = filter (λ e. nat_lt t e.job.release) jobs

-- The backlog at time t, from a backlog at an earlier time, through jobs listed by release: to each release it falls by the ticks
-- since the time before, not below 0, and there it rises by the job's time; at the end it falls by the ticks left to t
abbrev pub backlog_at : ℕ → ℕ → List Timed → ℕ → ℕ
backlog_at backlog since [] t = backlog - (t - since)
backlog_at backlog since (e ∷ es) t = backlog_at ((backlog - (e.job.release - since)) + e.time) e.job.release es t

-- the ticks from r on that are left to serve, through the jobs of higher tasks listed by release: a job released while some are left adds its time
abbrev pub delayed : ℕ → ℕ → List Timed → ℕ
delayed r ticks [] = ticks
delayed r ticks (e ∷ es) = delayed r (if nat_lt (e.job.release - r) ticks then ticks + e.time else ticks) es

-- the finish by backlog of a listed job: its release, and the backlog of its level right after it with the delays
abbrev pub finish_by_backlog : List ℕ → List Timed → Job → ℕ
finish_by_backlog order jobs job =
    let r = job.release in
    let backlog = backlog_at 0 0 (released_until r (level_jobs order job.task jobs)) r in
    r + delayed r backlog (released_after r (jobs_above order job.task jobs))
