-- The released work of some jobs, where no other jobs go before them, is a backlog: each tick takes 1 of it, and each release adds to it.
use Rattle.std.proofs.Common.{◌≡◌, ℕ, zero, suc, ◌+◌, ◌-◌, ◌≤◌, ◌<◌, Bool, true, false, ◌&&◌, cond, nat_le, nat_lt, List, [], ◌∷◌, length, get_or, map, refl, ap, sym, ◌∙◌, subst, arith, inl, inr}
use Rattle.std.specs.List.{list_all}
use Rattle.std.proofs.Math.ListN.{set}
use Rattle.std.proofs.lemmas.Bool.{both_ways, cases_Bool, and_parts, false_from_ne_true}
use Rattle.std.proofs.lemmas.Bool.Decides.{nat_tests}
use Rattle.std.proofs.lemmas.List.{length-map}
use Rattle.std.proofs.lemmas.List.Elements.{recursion_from_All}
use Rattle.prta_sheet.specs.Job.{Job}
use Rattle.prta_sheet.specs.Assignment.{Timed}
use Rattle.prta_sheet.specs.Weights.{jobs_of}
use Rattle.prta_sheet.specs.Machine.{goes_before, is_pending, is_served, tick, after}
use Rattle.prta_ticksim.specs.Times.{timed_jobs, job_at}
use Rattle.prta_ticksim.specs.Serving.{AreApart, is_waiting, IsFirstOf, NoneWaits}
use Rattle.prta_ticksim.proofs.GoesBefore.{Goes}
use Rattle.prta_ticksim.proofs.Sums.{sum_by-same, sum_by-map}
use Rattle.prta_ticksim.proofs.Ticked.{ticked, jobs_after}
use Rattle.prta_ticksim.proofs.Ticks.{idle_tick, busy_tick}
use Rattle.prta_ticksim.proofs.TimedJobs.{timed_at, length-timed, timed_get, timed_parts}
use Rattle.prta_ticksim.proofs.TimeOf.{time_of, until, later, at, time_of-none, time_of-cons, all_is, later_is}
use Rattle.prta_ticksim.proofs.Waiting.{find_waiting}

-- only jobs that pass go before a job that passes
abbrev pub IsClosed : List ℕ → (Job → Bool) → Type 0
IsClosed order p = (a b : Job) → Goes order a b → p b ≡ true → p a ≡ true

-- where the time at one place changes
time_of-set : (q : Job → Bool) (jobs : List Job) (left : List ℕ) (k x : ℕ) → length left ≡ length jobs → k < length jobs →
    time_of q (timed_jobs jobs (set left k x)) + cond (q (job_at jobs k)) (get_or left k 0) 0 ≡ time_of q (timed_jobs jobs left) + cond (q (job_at jobs k)) x 0
time_of-set q [] left k x each low = absurd (omega arith)
time_of-set q (job ∷ jobs) [] k x each low = absurd (omega arith)
time_of-set q (job ∷ jobs) (c ∷ left) zero x each low =
    omega (arith, time_of-cons q (record { job = job; time = x }) (timed_jobs jobs left), time_of-cons q (record { job = job; time = c }) (timed_jobs jobs left))
time_of-set q (job ∷ jobs) (c ∷ left) (suc k) x each low =
    omega (
      arith,
      time_of-cons q (record { job = job; time = c }) (timed_jobs jobs (set left k x)),
      time_of-cons q (record { job = job; time = c }) (timed_jobs jobs left),
      time_of-set q jobs left k x (omega arith) (omega arith),
    )

-- ---- one tick

module _ (order : List ℕ) (t : ℕ) (p : Job → Bool) where
  -- a job that isn't pending has no released work
  none_idle : (e : Timed) → is_pending t e ≡ false → cond (until p t e.job) e.time 0 ≡ 0
  none_idle e idle = by_flag (p e.job) e.job.release e.time idle
    where
      by_flag : (b : Bool) (r c : ℕ) → (nat_le r t && nat_lt 0 c) ≡ false → cond (b && nat_le r t) c 0 ≡ 0
      by_flag true r c idle = grind (arith, nat_tests)
      by_flag false r c idle = refl

  -- nor has one that doesn't pass
  none_other : (e : Timed) → p e.job ≡ false → cond (until p t e.job) e.time 0 ≡ 0
  none_other e fails = rw fails refl

  -- the served job's work
  one_less : (e : Timed) → p e.job ≡ true → is_pending t e ≡ true → cond (until p t e.job) (e.time - 1) 0 + 1 ≡ cond (until p t e.job) e.time 0
  one_less e passes pending = by_flag (p e.job) e.job.release e.time passes pending
    where
      by_flag : (b : Bool) (r c : ℕ) → b ≡ true → (nat_le r t && nat_lt 0 c) ≡ true → cond (b && nat_le r t) (c - 1) 0 + 1 ≡ cond (b && nat_le r t) c 0
      by_flag true r c passes pending = grind (arith, nat_tests)
      by_flag false r c passes pending = absurd (both_ways false refl passes)

  -- ---- by places

  module _ (jobs : List Job) (left : List ℕ) (each : length left ≡ length jobs) where
    abbrev work : List Timed → ℕ
    work = time_of (until p t)

    no_work : ((i : ℕ) → i < length jobs → cond (until p t (job_at jobs i)) (get_or left i 0) 0 ≡ 0) → work (timed_jobs jobs left) ≡ 0
    no_work none =
        time_of-none (until p t) (timed_jobs jobs left)
        (recursion_from_All (λ (e : Timed). cond (until p t e.job) e.time 0 ≡ 0) (timed_jobs jobs left)
        (λ i d low.
        let within : i < length jobs = omega (arith, length-timed jobs left each) in
        ap (λ (e : Timed). cond (until p t e.job) e.time 0) (timed_get jobs left each i d within) ∙ none i within))

    tick_idle : NoneWaits jobs left t (length jobs) → work (tick order t (timed_jobs jobs left)) ≡ work (timed_jobs jobs left) - 1
    tick_idle none =
        let nothing : work (timed_jobs jobs left) ≡ 0 = no_work (λ i low. none_idle (timed_at jobs left i) (none i low)) in
        ap work (idle_tick order jobs t left each none) ∙ omega (arith, nothing)

    module _ (closed : IsClosed order p) (apart : AreApart order jobs) (k : ℕ) (first : IsFirstOf order jobs left t (length jobs) k) where
      change : work (tick order t (timed_jobs jobs left)) + cond (until p t (job_at jobs k)) (get_or left k 0) 0 ≡ work (timed_jobs jobs left) + cond (until p t (job_at jobs k)) (get_or left k 0 - 1) 0
      change =
          ap (λ (state : List Timed). work state + cond (until p t (job_at jobs k)) (get_or left k 0) 0) (busy_tick order jobs apart t left k each first)
          ∙ time_of-set (until p t) jobs left k (get_or left k 0 - 1) each first.listed

      -- where the first waiting job doesn't pass, no waiting job does
      none_behind : p (job_at jobs k) ≡ false → (i : ℕ) → i < length jobs → is_waiting jobs left t i ≡ true → p (job_at jobs i) ≡ false
      none_behind fails i low waits =
          elim (cases_Bool (goes_before order (job_at jobs k) (job_at jobs i))) [
            | inl goes ↦ false_from_ne_true (p (job_at jobs i)) (λ passes. both_ways (p (job_at jobs k)) fails (closed (job_at jobs k) (job_at jobs i) goes passes))
            | inr not_before ↦ let same : i ≡ k = apart i k low first.listed (first.first i low waits) not_before in rw same fails
          ]

      tick_busy : work (tick order t (timed_jobs jobs left)) ≡ work (timed_jobs jobs left) - 1
      tick_busy =
          elim (cases_Bool (p (job_at jobs k))) [
            | inl passes ↦ omega (arith, change, one_less (timed_at jobs left k) passes first.waiting)
            | inr fails ↦
                let nothing : work (timed_jobs jobs left) ≡ 0 =
                no_work (λ i low. elim (cases_Bool (is_waiting jobs left t i)) [
                  | inl waits ↦ none_other (timed_at jobs left i) (none_behind fails i low waits)
                  | inr idle ↦ none_idle (timed_at jobs left i) idle
                ]) in
                omega (arith, change, nothing, none_other (timed_at jobs left k) fails, none_other (timed_at jobs (set left k (get_or left k 0 - 1)) k) fails, none_other (record (timed_at jobs left k) { time = get_or left k 0 - 1 }) fails)
          ]

    by_places : IsClosed order p → AreApart order jobs → work (tick order t (timed_jobs jobs left)) ≡ work (timed_jobs jobs left) - 1
    by_places closed apart = elim (find_waiting order jobs left t (length jobs)) [ inl none ↦ tick_idle none | inr f ↦ tick_busy closed apart f.0 f.1 ]

  module _ (state : List Timed) where
    -- a tick takes 1 of the released work
    pub until_tick : IsClosed order p → AreApart order (jobs_of state) → time_of (until p t) (tick order t state) ≡ time_of (until p t) state - 1
    until_tick closed apart =
        let f : Timed → Job = λ e. e.job in
        let g : Timed → ℕ = λ e. e.time in
        subst (λ (s : List Timed). time_of (until p t) (tick order t s) ≡ time_of (until p t) s - 1) (timed_parts state)
        (by_places (jobs_of state) (map g state) (length-map state g ∙ sym (length-map state f)) closed apart)

    -- and leaves the time of the jobs released later
    pub later_tick : (n : ℕ) → t ≤ n → time_of (later p n) (tick order t state) ≡ time_of (later p n) state
    later_tick n reached =
        sum_by-map (λ e. cond (later p n e.job) e.time 0) (ticked order t state) state ∙ sum_by-same _ _ (λ e. each e (is_served order t state e) refl) state
      where
        released : (b : Bool) (r c d : ℕ) → nat_le r t ≡ true → cond (b && nat_lt n r) c 0 ≡ cond (b && nat_lt n r) d 0
        released true r c d early = grind (arith, nat_tests)
        released false r c d early = refl

        each : (e : Timed) (b : Bool) → is_served order t state e ≡ b → cond (later p n (ticked order t state e).job) (ticked order t state e).time 0 ≡ cond (later p n e.job) e.time 0
        each e true serves =
            let pending : is_pending t e ≡ true = (and_parts (is_pending t e) (list_all _ state) serves).0 in
            rw serves (released (p e.job) e.job.release (e.time - 1) e.time (and_parts (nat_le e.job.release t) (nat_lt 0 e.time) pending).0)
        each e false passes = rw passes refl

-- ---- the machine, from a start where of two jobs one goes before the other

module _ (order : List ℕ) (start : List Timed) (apart : AreApart order (jobs_of start)) where
  apart_after : (n : ℕ) → AreApart order (jobs_of (after order start n))
  apart_after n = subst (AreApart order) (sym (jobs_after order start n)) apart

  module _ (p : Job → Bool) where
    later_after : (n m : ℕ) → n ≤ suc m → time_of (later p m) (after order start n) ≡ time_of (later p m) start
    later_after zero m early = refl
    later_after (suc n) m early = later_tick order n p (after order start n) m (omega arith) ∙ later_after n m (omega arith)

    -- what is left is the released work and what comes later
    pub left_now : (n : ℕ) → time_of p (after order start n) ≡ time_of (until p n) (after order start n) + time_of (later p n) start
    left_now n = omega (arith, all_is p (after order start n) n, later_after n n (omega arith))

    module _ (closed : IsClosed order p) where
      pub left_next : (n : ℕ) → time_of p (after order start (suc n)) ≡ (time_of (until p n) (after order start n) - 1) + time_of (later p n) start
      left_next n = omega (arith, all_is p (after order start (suc n)) n, until_tick order n p (after order start n) closed (apart_after n), later_after (suc n) n (omega arith))

      pub work_next : (n : ℕ) → time_of (until p (suc n)) (after order start (suc n)) ≡ (time_of (until p n) (after order start n) - 1) + time_of (at p (suc n)) start
      work_next n = omega (arith, left_next n, left_now (suc n), later_is p start n)
