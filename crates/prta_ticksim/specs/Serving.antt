-- Which of listed jobs is to be served, from the time left to each.
use Rattle.std.specs.Prelude.{◌≡◌, ℕ, ◌<◌, ◌≤◌, Bool, true, false, ◌&&◌, nat_lt, nat_le, Option, Some, None, List, length, slice_index}
use Rattle.prta_sheet.specs.Job.{Job}
use Rattle.prta_sheet.specs.Machine.{goes_before}
use Rattle.prta_ticksim.specs.Times.{job_at}

-- no two jobs of a list stand equal: one of them goes before the other
abbrev pub AreApart : List ℕ → List Job → Type 0
AreApart order jobs =
    (i j : ℕ) → i < length jobs → j < length jobs → goes_before order (job_at jobs i) (job_at jobs j) ≡ false → goes_before order (job_at jobs j) (job_at jobs i) ≡ false → i ≡ j

-- the job at a place is released at or before t, with time left
abbrev pub is_waiting : List Job → List ℕ → ℕ → ℕ → Bool
is_waiting jobs left t i = nat_le (job_at jobs i).release t && nat_lt 0 (slice_index left i)

-- the job at place k is waiting, and none of the first n that are waiting goes before it
pub record IsFirstOf (order : List ℕ) (jobs : List Job) (left : List ℕ) (t n k : ℕ) : Type 0 where
  pub listed : k < n
  pub waiting : is_waiting jobs left t k ≡ true
  pub first : (i : ℕ) → i < n → is_waiting jobs left t i ≡ true → goes_before order (job_at jobs i) (job_at jobs k) ≡ false

-- none of the first n jobs is waiting
abbrev pub NoneWaits : List Job → List ℕ → ℕ → ℕ → Type 0
NoneWaits jobs left t n = (i : ℕ) → i < n → is_waiting jobs left t i ≡ false

-- a place is that of the first waiting job of the first n, and there is none only where none waits
abbrev pub IsFirstWaiting : List ℕ → List Job → List ℕ → ℕ → ℕ → Option ℕ → Type 0
IsFirstWaiting order jobs left t n None = NoneWaits jobs left t n
IsFirstWaiting order jobs left t n (Some k) = IsFirstOf order jobs left t n k

-- a time after now, not after the limit, and not after a later release of one of the first n jobs
pub record IsNextEvent (jobs : List Job) (now limit n event : ℕ) : Type 0 where
  pub later : now < event
  pub within : event ≤ limit
  pub quiet : (i : ℕ) → i < n → now < (job_at jobs i).release → event ≤ (job_at jobs i).release
