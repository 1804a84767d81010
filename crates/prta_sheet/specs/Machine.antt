-- The machine: one processor, preemptive fixed priorities, one unit of execution a tick.
use Rattle.std.specs.Prelude.{◌≡◌, ℕ, zero, suc, ◌-◌, ◌<◌, Bool, not, ◌&&◌, ◌||◌, nat_lt, nat_le, nat_eq, if◌then◌else◌, List, map, filter, sum_by}
use Rattle.std.specs.List.{list_all, position_or_len}
use Rattle.prta_sheet.specs.Job.{Job}
use Rattle.prta_sheet.specs.Assignment.{Timed}

-- the place of a task in an order of priorities, from highest to lowest
abbrev pub place : List ℕ → ℕ → ℕ
place order task = position_or_len (λ other. nat_eq other task) order

-- released at or before t, with time remaining
abbrev pub is_pending : ℕ → Timed → Bool
is_pending t e = nat_le e.job.release t && nat_lt 0 e.time

-- less by (place of its task in the order, release)
abbrev pub goes_before : List ℕ → Job → Job → Bool
goes_before order a b =
    nat_lt (place order a.task) (place order b.task)
    || (nat_eq (place order a.task) (place order b.task) && nat_lt a.release b.release)

-- pending at tick t, and no pending job goes before it
abbrev pub is_served : List ℕ → ℕ → List Timed → Timed → Bool
is_served order t state e = is_pending t e && list_all (λ other. not (is_pending t other && goes_before order other.job e.job)) state

-- tick t: the served job loses 1 of its remaining time
abbrev pub tick : List ℕ → ℕ → List Timed → List Timed
tick order t state = map (λ e. if is_served order t state e then record e { time = e.time - 1 } else e) state

-- the state after the ticks 0 to n - 1
abbrev pub after : List ℕ → List Timed → ℕ → List Timed
after order start zero = start
after order start (suc n) = tick order n (after order start n)

abbrev pub is_job : Job → Timed → Bool
is_job job e = nat_eq e.job.task job.task && nat_eq e.job.release job.release

-- the time that remains to a job
abbrev pub remaining : Job → List Timed → ℕ
remaining job state = sum_by (λ e. e.time) (filter (is_job job) state)

-- a job misses where time remains to it after the ticks 0 to its absolute deadline - 1
abbrev pub misses : List ℕ → Job → ℕ → List Timed → Bool
misses order job deadline start = nat_lt 0 (remaining job (after order start deadline))

-- a job finishes at n, the least number of ticks after which no time remains to it
pub record IsFinish (order : List ℕ) (start : List Timed) (job : Job) (n : ℕ) : Type 0 where
  pub done : remaining job (after order start n) ≡ 0
  pub least : (m : ℕ) → m < n → 0 < remaining job (after order start m)
