-- the tasks so far
use Rattle.std.proofs.Common.{◌≡◌, ℕ, ◌&&◌, nat_lt}
use Rattle.prta_jobs.specs.TaskSet.{holds}
use Rattle.prta_jobs.specs.Instant.{is_released}
use Rattle.prta_jobs.proofs.instant.released_at.Given as goal

abbrev pub invariant-loop-i : goal.invariant-loop-i
invariant-loop-i l = (k : ℕ) → holds l.released k ≡ (nat_lt k l.i && is_released l.tasks (holds l.level) l.time k)
