-- A job has one finish; what that, or time that is left, says of a miss.
use Rattle.std.specs.Prelude.{◌≡◌, ℕ, ◌<◌, ◌≤◌, true, nat_lt, List}
use Rattle.prta_sheet.specs.Job.{Job}
use Rattle.prta_sheet.specs.Assignment.{Timed}
use Rattle.prta_sheet.specs.Machine.{after, remaining, misses, IsFinish}

pub record FinishesTellMisses : Type 0 where
  -- a job finishes once
  pub one : (order : List ℕ) (start : List Timed) (job : Job) (n m : ℕ) → IsFinish order start job n → IsFinish order start job m → n ≡ m
  -- a job that finishes misses just where its finish is above its absolute deadline
  pub finished : (order : List ℕ) (start : List Timed) (job : Job) (n : ℕ) → IsFinish order start job n →
      (deadline : ℕ) → misses order job deadline start ≡ nat_lt deadline n
  -- a job to which time is left after some ticks misses each absolute deadline up to there
  pub left : (order : List ℕ) (start : List Timed) (job : Job) (n : ℕ) → 0 < remaining job (after order start n) →
      (deadline : ℕ) → deadline ≤ n → misses order job deadline start ≡ true
