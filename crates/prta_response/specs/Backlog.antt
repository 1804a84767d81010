-- What a list of chances claims of the machine: how a level's backlog is spread over the assignments.
use Rattle.std.specs.Prelude.{ℕ, ◌*◌, nat_le, List, filter, sum_by}
use Rattle.prta_mass.specs.Unit.{unit}
use Rattle.prta_mass.specs.Chances.{at}
use Rattle.prta_mass.specs.Direction.{IsSafe}
use Rattle.prta_mass.specs.declared.direction.Dir.{Dir}
use Rattle.prta_sheet.specs.Sheet.{Task}
use Rattle.prta_sheet.specs.Job.{table_of, jobs_before}
use Rattle.prta_sheet.specs.Assignment.{Timed, assignments, weight_of, times_of, total_of}
use Rattle.prta_jobs.specs.Backlog.{backlog_at}
use Rattle.prta_backlog.specs.Level.{Level, has_task}

-- a level's backlog at time t, of jobs with times listed by release: from an empty start through those of the level
abbrev pub level_backlog : Level → List Timed → ℕ → ℕ
level_backlog level jobs t = backlog_at 0 0 (filter (λ e. has_task level e.job.task) jobs) t

-- the sum of the weights of the assignments for all jobs released before `until` under which the level's backlog at t is at most k
abbrev pub weight_within : List Task → Level → ℕ → ℕ → ℕ → ℕ
weight_within tasks level until t k =
    sum_by weight_of (filter (λ a. nat_le (level_backlog level (times_of a) t) k) (assignments (table_of tasks) (jobs_before tasks until)))

-- at each place k the list is on the safe side of the share of these assignments, in units of 2^-60
abbrev pub BoundsBacklog : Dir → List Task → Level → ℕ → ℕ → List ℕ → Type 0
BoundsBacklog dir tasks level until t cells =
    (k : ℕ) → IsSafe dir (at cells k * total_of (table_of tasks) (jobs_before tasks until)) (unit * weight_within tasks level until t k)
