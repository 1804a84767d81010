-- The walk of a level at a ratio: a number that goes through the releases and ticks of one hyperperiod, and bounds the mean growth of a geometric tail.
use Rattle.std.specs.Prelude.{◌≡◌, ℕ, zero, suc, ◌*◌, ◌^◌, ◌<◌, ◌≤◌, max, Option, Some, None, Bool, not, ◌&&◌, ◌||◌, nat_le, List, fold, sum_by, length, find}
use Rattle.std.specs.Int.{div_ceil}
use Rattle.std.specs.List.{range_with_len, list_all}
use Rattle.prta_mass.specs.Table.{Table, total}
use Rattle.prta_sheet.specs.Sheet.{Task, task_at, hyperperiod}
use Rattle.prta_sheet.specs.Job.{Job, table_of}
use Rattle.prta_backlog.specs.Level.{Level, has_task, level_at}
use Rattle.prta_tail.specs.declared.ratio.Ratio.{Ratio}
use Rattle.prta_tail.specs.Ratios.{ratios}

-- from a start, n times multiplied by q and divided by p, each quotient rounded up
abbrev pub grown_from : Ratio → ℕ → ℕ → ℕ
grown_from r start zero = start
grown_from r start (suc n) = div_ceil (grown_from r start n * r.q) r.p

-- the growth over n ticks of work: from 2^32, which stands for 1
abbrev pub grown : Ratio → ℕ → ℕ
grown r n = grown_from r (2 ^ 32) n

-- the factor of a table: its mean growth, rounded up
abbrev pub factor : Ratio → Table → ℕ
factor r table = div_ceil (sum_by (λ pair. pair.1 * grown r pair.0) table) (total table)

-- a walk number, and the greatest that it was so far
pub record WalkNumber : Type 0 where
  pub now : ℕ
  pub most : ℕ

abbrev pub walked : WalkNumber → ℕ → WalkNumber
walked walk x = record { now = x; most = max walk.most x }

-- a tick passes: times p, divided by q, rounded up
abbrev pub after_tick : Ratio → WalkNumber → WalkNumber
after_tick r walk = walked walk (div_ceil (walk.now * r.p) r.q)

-- a job is released: times the factor of its table, divided by 2^32, rounded up
abbrev pub after_release : Ratio → Table → WalkNumber → WalkNumber
after_release r table walk = walked walk (div_ceil (walk.now * factor r table) (2 ^ 32))

-- some jobs, one after the other
abbrev pub after_releases : Ratio → (Job → Table) → List Job → WalkNumber → WalkNumber
after_releases r table jobs walk = fold (λ walk job. after_release r (table job) walk) walk jobs

-- the walk from 2^40 at time 0, through the releases before a time and the ticks up to it
abbrev pub walk_to : List Task → Level → Ratio → ℕ → WalkNumber
walk_to tasks level r zero = record { now = 2 ^ 40; most = 2 ^ 40 }
walk_to tasks level r (suc t) = after_tick r (after_releases r (table_of tasks) (level_at tasks level t) (walk_to tasks level r t))

-- what is known of a walk: it stands at a number and was never above 2^63
pub record StandsAt (walk : WalkNumber) (number : ℕ) : Type 0 where
  pub now : walk.now ≡ number
  pub reached : walk.now ≤ walk.most
  pub low : walk.most ≤ 2 ^ 63

-- or it was above, and nothing else is known
abbrev pub IsWalk : WalkNumber → Option ℕ → Type 0
IsWalk walk None = 2 ^ 63 < walk.most
IsWalk walk (Some number) = StandsAt walk number

-- the growth over no time of a table is above 2^60
abbrev pub grows_low : Ratio → Table → Bool
grows_low r table = list_all (λ pair. nat_le (grown r pair.0) (2 ^ 60)) table

-- the same of all tables of the level's tasks
abbrev pub level_grows_low : List Task → Level → Ratio → Bool
level_grows_low tasks level r = list_all (λ i. not (has_task level i) || list_all (grows_low r) (task_at tasks i).cycle) (range_with_len 0 (length tasks))

-- the walk ends its hyperperiod at 2^40 at most, and was never above 2^63
abbrev pub walk_ends_low : List Task → Level → Ratio → Bool
walk_ends_low tasks level r =
    let walk = walk_to tasks level r (hyperperiod tasks) in
    nat_le walk.now (2 ^ 40) && nat_le walk.most (2 ^ 63)

-- the ratio passes for the level
abbrev pub ratio_passes : List Task → Level → Ratio → Bool
ratio_passes tasks level r = level_grows_low tasks level r && walk_ends_low tasks level r

-- the first of the ratios that does
abbrev pub first_ratio : List Task → Level → Option Ratio
first_ratio tasks level = find (ratio_passes tasks level) ratios
