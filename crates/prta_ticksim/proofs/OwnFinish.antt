-- The finish of a job, from the released work of the jobs up to it.
use Rattle.std.proofs.Common.{◌≡◌, ℕ, zero, suc, ◌+◌, ◌-◌, ◌≤◌, ◌<◌, Bool, not, ◌&&◌, ◌||◌, cond, nat_lt, nat_eq, List, length, refl, ap, sym, ◌∙◌, subst, arith, inl, inr, add-zero, add-suc}
use Rattle.std.specs.List.{AllByRecursion as Each}
use Rattle.std.proofs.lemmas.Bool.{both_ways, cases_Bool, cases_eq, cases_lt, cond-false, ne_eqb}
use Rattle.std.proofs.lemmas.Bool.Decides.{nat_tests}
use Rattle.prta_sheet.specs.Job.{Job}
use Rattle.prta_sheet.specs.Assignment.{Timed}
use Rattle.prta_sheet.specs.Machine.{place, goes_before, after, is_job, remaining}
use Rattle.prta_sheet.specs.Weights.{jobs_of}
use Rattle.prta_ticksim.specs.Serving.{AreApart}
use Rattle.prta_ticksim.proofs.Each.{Each-weaker}
use Rattle.prta_ticksim.proofs.Sums.{sum_by-filter}
use Rattle.prta_ticksim.proofs.Places.{same_place}
use Rattle.prta_ticksim.proofs.GoesBefore.{goes_on}
use Rattle.prta_ticksim.proofs.TimeOf.{time_of, until, later, at, time_of-same, time_of-split, time_of-none, until_zero}
use Rattle.prta_ticksim.proofs.TickedWork.{IsClosed, left_now, left_next, work_next}
use Rattle.prta_ticksim.proofs.BacklogByTick.{by_tick, by_tick-same, any}
use Rattle.prta_ticksim.proofs.Delays.{demand, demand_early, demand_suc, IsDelayed}

-- ---- the jobs that go before a job, and these with the job itself

module _ (order : List ℕ) (job : Job) where
  abbrev pub ahead : Job → Bool
  ahead other = goes_before order other job

  abbrev pub up_to : Job → Bool
  up_to other = not (goes_before order job other)

  ahead_closed : IsClosed order ahead
  ahead_closed a b goes passes = goes_on order a b job goes passes

  up_to_closed : IsClosed order up_to
  up_to_closed a b goes passes =
      elim (cases_Bool (goes_before order job a)) [
        | inl behind ↦ absurd (both_ways (up_to b) (ap not (goes_on order job a b behind goes)) passes)
        | inr fails ↦ ap not fails
      ]

  -- until its release the same is released of both
  same_before : (n : ℕ) → n < job.release → (es : List Timed) → time_of (at up_to n) es ≡ time_of (at ahead n) es
  same_before n early es = time_of-same _ _ (λ other c. same (place order other.task) (place order job.task) other.release job.release c early) es
    where
      same : (p q r s c : ℕ) → n < s → cond (not (nat_lt q p || (nat_eq q p && nat_lt s r)) && nat_eq r n) c 0 ≡ cond ((nat_lt p q || (nat_eq p q && nat_lt r s)) && nat_eq r n) c 0
      same p q r s c early = grind (arith, nat_tests)

  -- and the same comes after it
  same_after : (n : ℕ) → job.release ≤ n → (es : List Timed) → time_of (later up_to n) es ≡ time_of (later ahead n) es
  same_after n late es = time_of-same _ _ (λ other c. same (place order other.task) (place order job.task) other.release job.release c late) es
    where
      same : (p q r s c : ℕ) → s ≤ n → cond (not (nat_lt q p || (nat_eq q p && nat_lt s r)) && nat_lt n r) c 0 ≡ cond ((nat_lt p q || (nat_eq p q && nat_lt r s)) && nat_lt n r) c 0
      same p q r s c late = grind (arith, nat_tests)

  module _ (within : place order job.task < length order) where
    abbrev own : Job → Bool
    own other = nat_eq other.task job.task && nat_eq other.release job.release

    remaining_is : (es : List Timed) → remaining job es ≡ time_of own es
    remaining_is es = sum_by-filter (is_job job) (λ e. e.time) es

    -- a fact of the places and the releases, for a job of the same task and for one of another task
    by_task : (P : ℕ → ℕ → ℕ → ℕ → Type 0) → ((p q a b : ℕ) → p ≡ q → a ≡ b → P p q a b) → ((p q a b : ℕ) → (p ≡ q → ⊥) → (a ≡ b → ⊥) → P p q a b) →
        (other : Job) → P (place order other.task) (place order job.task) other.task job.task
    by_task P one two other =
        elim (cases_eq other.task job.task) [
          | inl same ↦ one _ _ _ _ (ap (place order) same) same
          | inr differ ↦ two _ _ _ _ (λ e. differ (same_place order other.task job.task within e)) differ
        ]

    up_to_is : (es : List Timed) → time_of up_to es ≡ time_of ahead es + remaining job es
    up_to_is es = time_of-split up_to ahead own (λ other c. parts other c) es ∙ ap (λ n. time_of ahead es + n) (sym (remaining_is es))
      where
        parts : (other : Job) (c : ℕ) → cond (up_to other) c 0 ≡ cond (ahead other) c 0 + cond (own other) c 0
        parts other c =
            by_task (λ p q a b. (r s : ℕ) → cond (not (nat_lt q p || (nat_eq q p && nat_lt s r))) c 0 ≡ cond (nat_lt p q || (nat_eq p q && nat_lt r s)) c 0 + cond (nat_eq a b && nat_eq r s) c 0)
            (λ p q a b e f r s. grind (arith, nat_tests)) (λ p q a b e f r s. grind (arith, nat_tests)) other other.release job.release

    -- before its release the job comes later
    comes_before : (n : ℕ) → n < job.release → (es : List Timed) → time_of (later up_to n) es ≡ time_of (later ahead n) es + remaining job es
    comes_before n early es = time_of-split (later up_to n) (later ahead n) own (λ other c. parts other c) es ∙ ap (λ m. time_of (later ahead n) es + m) (sym (remaining_is es))
      where
        parts : (other : Job) (c : ℕ) → cond (later up_to n other) c 0 ≡ cond (later ahead n other) c 0 + cond (own other) c 0
        parts other c =
            by_task (λ p q a b. (r s : ℕ) → n < s →
            cond (not (nat_lt q p || (nat_eq q p && nat_lt s r)) && nat_lt n r) c 0 ≡ cond ((nat_lt p q || (nat_eq p q && nat_lt r s)) && nat_lt n r) c 0 + cond (nat_eq a b && nat_eq r s) c 0)
            (λ p q a b e f r s l. grind (arith, nat_tests)) (λ p q a b e f r s l. grind (arith, nat_tests)) other other.release job.release early

-- ---- in the machine

module _ (order : List ℕ) (start : List Timed) (apart : AreApart order (jobs_of start)) where
  -- the released work is a backlog
  work_is_backlog : (p : Job → Bool) → IsClosed order p → (n : ℕ) → time_of (until p n) (after order start n) ≡ by_tick (λ k. time_of (at p k) start) n
  work_is_backlog p closed zero = until_zero p start
  work_is_backlog p closed (suc n) = omega (arith, work_next order start apart p closed n, work_is_backlog p closed n)

  module _ (job : Job) (within : place order job.task < length order) where
    -- the time that remains to the job, and the released work of the jobs up to it and of those before it
    abbrev pub own_left : ℕ → ℕ
    own_left n = remaining job (after order start n)

    abbrev pub work : ℕ → ℕ
    work n = time_of (until (up_to order job) n) (after order start n)

    abbrev work_ahead : ℕ → ℕ
    work_ahead n = time_of (until (ahead order job) n) (after order start n)

    same_work : (n : ℕ) → n < job.release → work n ≡ work_ahead n
    same_work n early =
        work_is_backlog (up_to order job) (up_to_closed order job) n
        ∙ by_tick-same _ _ n (λ k low. same_before order job k (omega arith) start)
        ∙ sym (work_is_backlog (ahead order job) (ahead_closed order job) n)

    up_to_next : (n : ℕ) → time_of (ahead order job) (after order start (suc n)) + own_left (suc n) ≡ (work n - 1) + time_of (later (up_to order job) n) start
    up_to_next n = omega (arith, up_to_is order job within (after order start (suc n)), left_next order start apart (up_to order job) (up_to_closed order job) n)

    ahead_next : (n : ℕ) → time_of (ahead order job) (after order start (suc n)) ≡ (work_ahead n - 1) + time_of (later (ahead order job) n) start
    ahead_next n = left_next order start apart (ahead order job) (ahead_closed order job) n

    -- up to its release the whole time remains
    own_until : (n : ℕ) → n ≤ job.release → own_left n ≡ remaining job start
    own_until zero early = refl
    own_until (suc n) early = omega (arith, up_to_next n, ahead_next n, same_work n early, comes_before order job within n early start)

    -- from then on what remains is the released work beyond that of the jobs before it
    own_now : (n : ℕ) → job.release ≤ n → work n ≡ work_ahead n + own_left n
    own_now n late =
        omega (
          arith,
          up_to_is order job within (after order start n),
          left_now order start apart (up_to order job) n,
          left_now order start apart (ahead order job) n,
          same_after order job n late start,
        )

    own_next : (n : ℕ) → job.release ≤ n → work n - 1 ≡ (work_ahead n - 1) + own_left (suc n)
    own_next n late = omega (arith, up_to_next n, ahead_next n, same_after order job n late start)

    -- the job is not done by a tick that leaves work of these jobs, and is done by the one that takes the last of it
    own_kept : (n : ℕ) → job.release ≤ n → 0 < own_left n → 1 < work n → 0 < own_left (suc n)
    own_kept n late some more = omega (arith, own_now n late, own_next n late)

    own_done : (n : ℕ) → job.release ≤ n → work n ≡ 1 → own_left (suc n) ≡ 0
    own_done n late last = omega (arith, own_next n late)

    -- ---- with the delays

    module _ (takes : 1 ≤ remaining job start) (es : List Timed) (after_own : Each (λ e. job.release < e.job.release) es)
        (arrive : (n : ℕ) → job.release < n → time_of (at (up_to order job) n) start ≡ time_of (at any n) es)
        (ticks end : ℕ) (first : ticks ≡ by_tick (λ n. time_of (at (up_to order job) n) start) job.release) (ends : IsDelayed job.release ticks es end) where
      abbrev r : ℕ
      r = job.release

      first_work : work r ≡ ticks
      first_work = work_is_backlog (up_to order job) (up_to_closed order job) r ∙ sym first

      -- the released work, while the job is unfinished
      busy_work : (m : ℕ) → m < end → work (r + m) + m ≡ demand r ticks es (suc m)
      busy_work zero low =
          let none : time_of (at any (r + 0)) es ≡ 0 =
          time_of-none (at any (r + 0)) es (Each-weaker _ _ (λ e l. cond-false (nat_eq e.job.release (r + 0)) e.time 0 (ne_eqb e.job.release (r + 0) (omega arith))) es after_own) in
          let early : demand r ticks es 0 ≡ ticks = demand_early r ticks 0 es (Each-weaker _ _ (λ e l. omega arith) es after_own) in
          let here : work r ≡ demand r ticks es 1 = omega (arith, first_work, demand_suc r ticks 0 es after_own, none, early) in
          subst (λ k. work k + 0 ≡ demand r ticks es 1) (sym (add-zero r)) (omega (arith, here))
      busy_work (suc m) low =
          let step : work (suc (r + m)) ≡ (work (r + m) - 1) + time_of (at (up_to order job) (suc (r + m))) start = work_next order start apart (up_to order job) (up_to_closed order job) (r + m) in
          let come : demand r ticks es (suc (suc m)) ≡ demand r ticks es (suc m) + time_of (at any (suc (r + m))) es =
          subst (λ k. demand r ticks es (suc (suc m)) ≡ demand r ticks es (suc m) + time_of (at any k) es) (add-suc r m) (demand_suc r ticks (suc m) es after_own) in
          let here : work (suc (r + m)) + suc m ≡ demand r ticks es (suc (suc m)) =
          omega (arith, busy_work m (omega arith), step, arrive (suc (r + m)) (omega arith), come, ends.busy (suc m) low) in
          subst (λ k. work k + suc m ≡ demand r ticks es (suc (suc m))) (sym (add-suc r m)) here

      own_busy : (m : ℕ) → m < end → 0 < own_left (r + m)
      own_busy zero low = rw add-zero (omega (arith, own_until r (omega arith)))
      own_busy (suc m) low = rw add-suc (own_kept (r + m) (omega arith) (own_busy m (omega arith)) (omega (arith, busy_work m (omega arith), ends.busy (suc m) low)))

      pub own_before : (n : ℕ) → n < r + end → 0 < own_left n
      own_before n low =
          elim (cases_lt n r) [
            | inl early ↦ omega (arith, own_until n (omega arith))
            | inr late ↦ let split : r + (n - r) ≡ n = omega arith in subst (λ k. 0 < own_left k) split (own_busy (n - r) (omega arith))
          ]

      pub own_at_end : own_left (r + end) ≡ 0
      own_at_end =
          let some : 0 < ticks = omega (arith, own_until r (omega arith), own_now r (omega arith), first_work) in
          let before : suc (end - 1) ≡ end = omega (arith, ends.rises) in
          let one : work (r + (end - 1)) ≡ 1 = omega (arith, busy_work (end - 1) (omega (arith, ends.rises)), ap (λ k. demand r ticks es k) before, ends.meets, ends.rises) in
          let last : suc (r + (end - 1)) ≡ r + end = omega (arith, ends.rises) in
          subst (λ k. own_left k ≡ 0) last (own_done (r + (end - 1)) (omega arith) one)
