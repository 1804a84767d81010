-- The numbers of backlog, job by job of a list.
use Rattle.std.proofs.Common.{◌≡◌, ℕ, ◌+◌, ◌-◌, ◌*◌, ◌<◌, ◌≤◌, Bool, true, false, cond, nat_lt, List, ◌∷◌, length, drop, filter, get_or, All, refl, ap, sym, ◌∙◌, arith, inl, inr, ◌⊎◌}
use Rattle.std.proofs.lemmas.Bool.{both_ways, le-leb, lt-leb, lt-ltb, le-ltb}
use Rattle.prta_sheet.specs.declared.limits.TheConstants.{TIME_LIMIT}
use Rattle.prta_sheet.specs.Job.{Job}
use Rattle.prta_sheet.specs.Assignment.{Timed}
use Rattle.prta_jobs.specs.Backlog.{released_until, released_after, backlog_at, delayed}
use Rattle.prta_ticksim.specs.Times.{timed_jobs, job_at, IsTime, IsJobList}
use Rattle.prta_ticksim.proofs.TimedJobs.{timed_at, timed_rest, timed_end}

-- ---- one more job of a list

module _ (level : Timed → Bool) (e : Timed) (es : List Timed) where
  -- the backlog at a time, through the jobs of the level up to then
  backlog_counts : (time backlog since : ℕ) → level e ≡ true → e.job.release ≤ time →
      backlog_at backlog since (released_until time (filter level (e ∷ es))) time
      ≡ backlog_at ((backlog - (e.job.release - since)) + e.time) e.job.release (released_until time (filter level es)) time
  backlog_counts time backlog since member early = rw (member, le-leb e.job.release time early) refl

  backlog_leaves : (time backlog since : ℕ) → (level e ≡ false) ⊎ (time < e.job.release) →
      backlog_at backlog since (released_until time (filter level (e ∷ es))) time ≡ backlog_at backlog since (released_until time (filter level es)) time
  backlog_leaves time backlog since (inl other) = rw other refl
  backlog_leaves time backlog since (inr late) = by_flag (level e) refl
    where
      by_flag : (b : Bool) → level e ≡ b → backlog_at backlog since (released_until time (cond (level e) (e ∷ filter level es) (filter level es))) time ≡ backlog_at backlog since (released_until time (filter level es)) time
      by_flag true member = rw (member, lt-leb e.job.release time late) refl
      by_flag false other = rw other refl

  -- the ticks that are left to serve, through the jobs of the level released later
  delay_counts : (from ticks : ℕ) → level e ≡ true → from < e.job.release → e.job.release - from < ticks →
      delayed from ticks (released_after from (filter level (e ∷ es))) ≡ delayed from (ticks + e.time) (released_after from (filter level es))
  delay_counts from ticks member later some = rw (member, lt-ltb from e.job.release later) (rw (lt-ltb (e.job.release - from) ticks some, delayed) refl)

  delay_leaves : (from ticks : ℕ) → (level e ≡ false) ⊎ ((e.job.release ≤ from) ⊎ (ticks ≤ e.job.release - from)) →
      delayed from ticks (released_after from (filter level (e ∷ es))) ≡ delayed from ticks (released_after from (filter level es))
  delay_leaves from ticks why = by_flags (level e) (nat_lt from e.job.release) refl refl why
    where
      by_flags : (b c : Bool) → level e ≡ b → nat_lt from e.job.release ≡ c → (level e ≡ false) ⊎ ((e.job.release ≤ from) ⊎ (ticks ≤ e.job.release - from)) →
          delayed from ticks (released_after from (cond (level e) (e ∷ filter level es) (filter level es))) ≡ delayed from ticks (released_after from (filter level es))
      by_flags false c other late why = rw other refl
      by_flags true false member late why = rw (member, late) refl
      by_flags true true member late (inl other) = absurd (both_ways (level e) other member)
      by_flags true true member late (inr (inl early)) = absurd (both_ways (nat_lt from e.job.release) (le-ltb from e.job.release early) late)
      by_flags true true member late (inr (inr none)) = rw (member, late) (rw (le-ltb (e.job.release - from) ticks none, delayed) refl)

-- ---- of the first k jobs

-- the backlog at a time is the number so far, carried through the other jobs
pub record IsBacklogSoFar (jobs : List Job) (times : List ℕ) (level : Timed → Bool) (time k backlog since : ℕ) : Type 0 where
  pub value : backlog_at backlog since (released_until time (filter level (drop k (timed_jobs jobs times)))) time ≡ backlog_at 0 0 (released_until time (filter level (timed_jobs jobs times))) time
  pub bound : backlog ≤ k * TIME_LIMIT
  pub reached : since ≤ time
  pub in_order : (m : ℕ) → k ≤ m → m < length jobs → since ≤ (job_at jobs m).release

-- the delayed ticks are the number so far, carried through the other jobs
pub record IsDelayedSoFar (jobs : List Job) (times : List ℕ) (level : Timed → Bool) (from first k ticks : ℕ) : Type 0 where
  pub value : delayed from ticks (released_after from (filter level (drop k (timed_jobs jobs times)))) ≡ delayed from first (released_after from (filter level (timed_jobs jobs times)))
  pub bound : ticks ≤ first + k * TIME_LIMIT

-- before the first job
pub no_backlog : (jobs : List Job) (times : List ℕ) (level : Timed → Bool) (time : ℕ) → IsBacklogSoFar jobs times level time 0 0 0
no_backlog jobs times level time = record { value = refl; bound = omega arith; reached = omega arith; in_order = λ m after within. omega arith }

module _ (jobs : List Job) (times : List ℕ) (one_each : length times ≡ length jobs) (level : Timed → Bool) (listed : IsJobList jobs) (are_times : All IsTime times) where
  pub backlog_with : (time k backlog since : ℕ) → k < length jobs → IsBacklogSoFar jobs times level time k backlog since → level (timed_at jobs times k) ≡ true → (job_at jobs k).release ≤ time →
      IsBacklogSoFar jobs times level time (k + 1) ((backlog - ((job_at jobs k).release - since)) + get_or times k 0) (job_at jobs k).release
  backlog_with time k backlog since low so_far member early = record {
    value =
        sym (backlog_counts level (timed_at jobs times k) (drop (k + 1) (timed_jobs jobs times)) time backlog since member early)
        ∙ ap (λ (es : List Timed). backlog_at backlog since (released_until time (filter level es)) time) (sym (timed_rest jobs times one_each k low))
        ∙ so_far.value;
    bound = let time_is : IsTime (get_or times k 0) = are_times k 0 (omega arith) in omega (arith, so_far.bound);
    reached = early;
    in_order = λ m after within. listed.in_order k m _ (omega arith) within;
  }

  pub backlog_without : (time k backlog since : ℕ) → k < length jobs → IsBacklogSoFar jobs times level time k backlog since → (level (timed_at jobs times k) ≡ false) ⊎ (time < (job_at jobs k).release) →
      IsBacklogSoFar jobs times level time (k + 1) backlog since
  backlog_without time k backlog since low so_far why = record {
    value =
        sym (backlog_leaves level (timed_at jobs times k) (drop (k + 1) (timed_jobs jobs times)) time backlog since why)
        ∙ ap (λ (es : List Timed). backlog_at backlog since (released_until time (filter level es)) time) (sym (timed_rest jobs times one_each k low))
        ∙ so_far.value;
    bound = omega (arith, so_far.bound);
    reached = so_far.reached;
    in_order = λ m after within. so_far.in_order m (omega arith) within;
  }

  pub delayed_with : (from first k ticks : ℕ) → k < length jobs → IsDelayedSoFar jobs times level from first k ticks → level (timed_at jobs times k) ≡ true → from < (job_at jobs k).release → (job_at jobs k).release - from < ticks →
      IsDelayedSoFar jobs times level from first (k + 1) (ticks + get_or times k 0)
  delayed_with from first k ticks low so_far member later some = record {
    value =
        sym (delay_counts level (timed_at jobs times k) (drop (k + 1) (timed_jobs jobs times)) from ticks member later some)
        ∙ ap (λ (es : List Timed). delayed from ticks (released_after from (filter level es))) (sym (timed_rest jobs times one_each k low))
        ∙ so_far.value;
    bound = let time_is : IsTime (get_or times k 0) = are_times k 0 (omega arith) in omega (arith, so_far.bound);
  }

  pub delayed_without : (from first k ticks : ℕ) → k < length jobs → IsDelayedSoFar jobs times level from first k ticks →
      (level (timed_at jobs times k) ≡ false) ⊎ (((job_at jobs k).release ≤ from) ⊎ (ticks ≤ (job_at jobs k).release - from)) → IsDelayedSoFar jobs times level from first (k + 1) ticks
  delayed_without from first k ticks low so_far why = record {
    value =
        sym (delay_leaves level (timed_at jobs times k) (drop (k + 1) (timed_jobs jobs times)) from ticks why)
        ∙ ap (λ (es : List Timed). delayed from ticks (released_after from (filter level es))) (sym (timed_rest jobs times one_each k low))
        ∙ so_far.value;
    bound = omega (arith, so_far.bound);
  }

  -- at the end of the list
  pub backlog_whole : (time k backlog since : ℕ) → length jobs ≤ k → IsBacklogSoFar jobs times level time k backlog since →
      backlog - (time - since) ≡ backlog_at 0 0 (released_until time (filter level (timed_jobs jobs times))) time
  backlog_whole time k backlog since past so_far =
      ap (λ (es : List Timed). backlog_at backlog since (released_until time (filter level es)) time) (sym (timed_end jobs times one_each k past)) ∙ so_far.value

  pub delayed_whole : (from first k ticks : ℕ) → length jobs ≤ k → IsDelayedSoFar jobs times level from first k ticks → ticks ≡ delayed from first (released_after from (filter level (timed_jobs jobs times)))
  delayed_whole from first k ticks past so_far =
      ap (λ (es : List Timed). delayed from ticks (released_after from (filter level es))) (sym (timed_end jobs times one_each k past)) ∙ so_far.value
