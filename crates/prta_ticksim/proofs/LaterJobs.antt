-- The machine with the jobs alone that are released before a time makes the same ticks up to then.
use Rattle.std.proofs.Common.{◌≡◌, ℕ, zero, suc, ◌+◌, ◌-◌, ◌≤◌, ◌<◌, Bool, true, false, not, ◌&&◌, nat_le, nat_lt, nat_eq, cond, if◌then◌else◌, List, [], ◌∷◌, ◌++◌, filter, sum_by, refl, ap, ap₂, sym, ◌∙◌, arith}
use Rattle.std.specs.List.{list_all}
use Rattle.std.proofs.lemmas.Bool.{and_left, cond_both, lt-ltb, le-ltb, eqb-true, and_parts}
use Rattle.std.proofs.lemmas.Bool.Decides.{nat_tests}
use Rattle.std.proofs.lemmas.List.{append-nil}
use Rattle.std.proofs.lemmas.List.Elements.{filter-append}
use Rattle.prta_sheet.specs.Sheet.{Task}
use Rattle.prta_sheet.specs.Job.{Job, deadline_of, released_at, jobs_before}
use Rattle.prta_sheet.specs.Assignment.{Timed}
use Rattle.prta_sheet.specs.Weights.{jobs_of}
use Rattle.prta_sheet.specs.Machine.{goes_before, is_pending, is_served, tick, after, is_job, remaining, misses}
use Rattle.prta_sheet.specs.Chance.{jobs_until}
use Rattle.prta_ticksim.specs.LaterJobs.{released_before, LaterJobsChangeNoMiss}
use Rattle.prta_ticksim.proofs.Each.{Each-weaker, filter_none, filter_all, filter_inner, filter_map}
use Rattle.prta_ticksim.proofs.JobOrder.{IsBefore, before_is, IsReleased, released_at_is}
use Rattle.prta_ticksim.proofs.Ticked.{ticked}

-- ---- ticks

module _ (order : List ℕ) (d : ℕ) where
  abbrev early : Timed → Bool
  early e = nat_lt e.job.release d

  -- a job that isn't early isn't pending before d
  late_idle : (t : ℕ) → t < d → (e : Timed) → early e ≡ false → is_pending t e ≡ false
  late_idle t soon e late = by_numbers e.job.release e.time late
    where
      by_numbers : (r c : ℕ) → nat_lt r d ≡ false → (nat_le r t && nat_lt 0 c) ≡ false
      by_numbers r c late = grind (arith, nat_tests)

  -- a test that those pass which aren't early
  all_early : (p : Timed → Bool) → ((e : Timed) → early e ≡ false → p e ≡ true) → (state : List Timed) → list_all p (filter early state) ≡ list_all p state
  all_early p passes [] = refl
  all_early p passes (e ∷ state) = by_flag (early e) refl (all_early p passes state)
    where
      by_flag : (b : Bool) → early e ≡ b → list_all p (filter early state) ≡ list_all p state → list_all p (cond (early e) (e ∷ filter early state) (filter early state)) ≡ (p e && list_all p state)
      by_flag true h rest = rw h (ap (λ b. p e && b) rest)
      by_flag false h rest = rw (h, passes e h) rest

  module _ (t : ℕ) (soon : t < d) (state : List Timed) where
    served_early : (e : Timed) → is_served order t (released_before d state) e ≡ is_served order t state e
    served_early e =
        ap (λ b. is_pending t e && b)
        (all_early (λ other. not (is_pending t other && goes_before order other.job e.job))
        (λ other late. ap not (and_left (is_pending t other) (goes_before order other.job e.job) (late_idle t soon other late))) state)

    tick_early : tick order t (released_before d state) ≡ released_before d (tick order t state)
    tick_early =
        filter_map early (ticked order t (released_before d state)) (ticked order t state)
        (λ e. ap (λ (b : Bool). if b then record e { time = e.time - 1 } else e) (served_early e))
        (λ e. cond_both (is_served order t state e) (record e { time = e.time - 1 }) e (λ (b : Timed). early b ≡ early e) (λ s. refl) (λ s. refl))
        state

  after_early : (start : List Timed) (n : ℕ) → n ≤ d → after order (released_before d start) n ≡ released_before d (after order start n)
  after_early start zero soon = refl
  after_early start (suc n) soon = ap (tick order n) (after_early start n (omega arith)) ∙ tick_early n (omega arith) (after order start n)

  -- the time that remains to an early job
  remaining_early : (job : Job) → job.release < d → (state : List Timed) → remaining job (released_before d state) ≡ remaining job state
  remaining_early job soon state =
      ap (sum_by (λ e. e.time))
      (filter_inner (is_job job) early
      (λ e own.
      let parts : (nat_eq e.job.task job.task ≡ true) × (nat_eq e.job.release job.release ≡ true) = and_parts (nat_eq e.job.task job.task) (nat_eq e.job.release job.release) own in
      lt-ltb e.job.release d (omega (arith, eqb-true e.job.release job.release parts.1)))
      state)

  same_miss : (start : List Timed) (job : Job) → job.release < d → misses order job d start ≡ misses order job d (released_before d start)
  same_miss start job soon = ap (nat_lt 0) (sym (ap (remaining job) (after_early start d (omega arith)) ∙ remaining_early job soon (after order start d)))

-- ---- which jobs these are

jobs_early : (d : ℕ) (start : List Timed) → jobs_of (released_before d start) ≡ filter (λ job. nat_lt job.release d) (jobs_of start)
jobs_early d [] = refl
jobs_early d (e ∷ start) =
    elim (nat_lt e.job.release d) as (λ b. jobs_of (cond b (e ∷ released_before d start) (released_before d start)) ≡ cond b (e.job ∷ filter (λ job. nat_lt job.release d) (jobs_of start)) (filter (λ job. nat_lt job.release d) (jobs_of start))) [
      | true ↦ ap (λ (jobs : List Job). e.job ∷ jobs) (jobs_early d start)
      | false ↦ jobs_early d start
    ]

-- of all jobs before a later time, those before d
before_early : (tasks : List Task) (d n : ℕ) → filter (λ job. nat_lt job.release d) (jobs_before tasks (d + n)) ≡ jobs_before tasks d
before_early tasks d zero =
    let same : d + 0 ≡ d = omega arith in
    ap (λ t. filter (λ job. nat_lt job.release d) (jobs_before tasks t)) same
    ∙ filter_all (λ job. nat_lt job.release d) (jobs_before tasks d) (Each-weaker (IsBefore d) _ (λ job soon. lt-ltb job.release d soon) (jobs_before tasks d) (before_is tasks d))
before_early tasks d (suc n) =
    let next : d + suc n ≡ suc (d + n) = omega arith in
    let early : Job → Bool = λ job. nat_lt job.release d in
    let none : filter early (released_at 0 tasks (d + n)) ≡ [] =
    filter_none early (released_at 0 tasks (d + n))
    (Each-weaker (IsReleased 0 (d + n)) (λ (job : Job). early job ≡ false) (λ job is. le-ltb job.release d (omega (arith, is.1))) (released_at 0 tasks (d + n)) (released_at_is 0 tasks (d + n))) in
    ap (λ t. filter early (jobs_before tasks t)) next
    ∙ filter-append early (jobs_before tasks (d + n)) (released_at 0 tasks (d + n))
    ∙ ap₂ (λ (a b : List Job). a ++ b) (before_early tasks d n) none
    ∙ append-nil (jobs_before tasks d)

same_jobs : (tasks : List Task) (t : ℕ) (start : List Timed) (job : Job) → jobs_of start ≡ jobs_before tasks t → deadline_of tasks job ≤ t → jobs_of (released_before (deadline_of tasks job) start) ≡ jobs_until tasks job
same_jobs tasks t start job whole inside =
    let d : ℕ = deadline_of tasks job in
    let split : t ≡ d + (t - d) = omega arith in
    jobs_early d start
    ∙ ap (filter (λ (other : Job). nat_lt other.release d)) (whole ∙ ap (jobs_before tasks) split)
    ∙ before_early tasks d (t - d)

pub later_jobs_change_no_miss : LaterJobsChangeNoMiss
later_jobs_change_no_miss = record {
  miss = λ order start job deadline soon. same_miss order deadline start job soon;
  jobs = same_jobs;
}
