-- The greatest numbers of a level: one backlog number goes from instant to instant, and each job takes the greatest time of its table.
use Rattle.std.specs.Prelude.{ℕ, zero, suc, ◌+◌, ◌-◌, max, if◌then◌else◌, List, sum_by}
use Rattle.prta_mass.specs.Table.{greatest}
use Rattle.prta_sheet.specs.Sheet.{Task, hyperperiod}
use Rattle.prta_sheet.specs.Job.{Job, table_of}
use Rattle.prta_backlog.specs.Level.{Level, level_at, is_quiet, level_before}

-- the greatest times of some jobs, added up
abbrev pub greatest_times : List Task → List Job → ℕ
greatest_times tasks jobs = sum_by (λ job. greatest (table_of tasks job)) jobs

-- the greatest work: the greatest times of the jobs of the level released in one hyperperiod
abbrev pub greatest_work : List Task → Level → ℕ
greatest_work tasks level = greatest_times tasks (level_before tasks level (hyperperiod tasks))

-- a backlog right after an instant, or at the start; the time of that instant, or 0; the greatest backlog right after an instant so far, 0 at the start
pub record WalkState : Type 0 where
  pub backlog : ℕ
  pub since : ℕ
  pub most : ℕ

-- the backlog at a time, with no release in between: it falls by the time since, not below 0
abbrev pub backlog_now : WalkState → ℕ → ℕ
backlog_now walk t = walk.backlog - (t - walk.since)

-- after an instant at a time: the backlog rises by the greatest times of the released jobs
abbrev pub risen : List Task → Level → WalkState → ℕ → WalkState
risen tasks level walk t =
    let backlog = backlog_now walk t + greatest_times tasks (level_at tasks level t) in
    record { backlog = backlog; since = t; most = max walk.most backlog }

-- from a backlog at time 0 through the instants before a time
abbrev pub greatest_walk : List Task → Level → ℕ → ℕ → WalkState
greatest_walk tasks level start zero = record { backlog = start; since = 0; most = 0 }
greatest_walk tasks level start (suc t) =
    let walk = greatest_walk tasks level start t in
    if is_quiet tasks level t then walk else risen tasks level walk t

-- the backlog at the end of one hyperperiod
abbrev pub backlog_end : List Task → Level → ℕ → ℕ
backlog_end tasks level start = backlog_now (greatest_walk tasks level start (hyperperiod tasks)) (hyperperiod tasks)

-- the worst-case backlog: the end from an empty start
abbrev pub worst_backlog : List Task → Level → ℕ
worst_backlog tasks level = backlog_end tasks level 0

-- the peak: the greatest backlog right after an instant, in a hyperperiod that starts at the worst-case backlog
abbrev pub peak : List Task → Level → ℕ
peak tasks level = (greatest_walk tasks level (worst_backlog tasks level) (hyperperiod tasks)).most
