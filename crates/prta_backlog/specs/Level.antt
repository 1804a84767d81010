-- Levels: a task with a set of higher tasks.
use Rattle.std.specs.Prelude.{ℕ, ◌+◌, Bool, ◌&&◌, ◌||◌, nat_eq, nat_lt, List, ◌++◌, filter, length}
use Rattle.prta_sheet.specs.Sheet.{Task}
use Rattle.prta_sheet.specs.Job.{Job, released_at, jobs_before}

-- a set of higher tasks, given as the test that just these pass, and the own task
pub record Level : Type 0 where
  pub higher : ℕ → Bool
  pub own : ℕ

-- the level of a task in the sheet's own order: exactly the tasks before it are higher
abbrev pub sheet_level : ℕ → Level
sheet_level i = record { higher = λ j. nat_lt j i; own = i }

-- a task is of the level: the own one, or a higher one
abbrev pub has_task : Level → ℕ → Bool
has_task level i = nat_eq i level.own || level.higher i

-- the jobs that the level releases at a time: the higher ones in sheet order, then the own one
abbrev pub higher_at : List Task → Level → ℕ → List Job
higher_at tasks level t = filter (λ job. level.higher job.task) (released_at 0 tasks t)

abbrev pub own_at : List Task → Level → ℕ → List Job
own_at tasks level t = filter (λ job. nat_eq job.task level.own) (released_at 0 tasks t)

abbrev pub level_at : List Task → Level → ℕ → List Job
level_at tasks level t = higher_at tasks level t ++ own_at tasks level t

-- a time at which it releases none, and so is no instant
abbrev pub is_quiet : List Task → Level → ℕ → Bool
is_quiet tasks level t = nat_eq (length (level_at tasks level t)) 0

-- the jobs of the level released before a time
abbrev pub level_before : List Task → Level → ℕ → List Job
level_before tasks level t = filter (λ job. has_task level job.task) (jobs_before tasks t)

-- the jobs of higher tasks released strictly between a time and some ticks later
abbrev pub delaying : List Task → Level → ℕ → ℕ → List Job
delaying tasks level r ticks = filter (λ job. level.higher job.task && nat_lt r job.release) (jobs_before tasks (r + ticks))
