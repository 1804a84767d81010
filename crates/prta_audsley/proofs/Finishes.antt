-- Fewer tasks above a task lengthen none of its finishes.
use Rattle.std.proofs.Common.{◌≡◌, ℕ, ◌+◌, ◌-◌, ◌≤◌, ◌<◌, Bool, true, false, ◌&&◌, nat_le, nat_lt, if◌then◌else◌, List, [], ◌∷◌, filter, length, ap, sym, subst, arith, ⊎_elim}
use Rattle.std.specs.List.{AllByRecursion as Each}
use Rattle.std.proofs.lemmas.List.Elements.{All-contains}
use Rattle.std.proofs.lemmas.Bool.{cases_Bool, cases_lt, leb-true, le-leb, ltb-true, lt-ltb, and_parts, and_from}
use Rattle.std.proofs.lemmas.Bool.Decides.{nat_tests}
use Rattle.prta_sheet.specs.Sheet.{Task}
use Rattle.prta_sheet.specs.Job.{Job, jobs_before}
use Rattle.prta_sheet.specs.Assignment.{Timed}
use Rattle.prta_sheet.specs.Machine.{place, misses, IsFinish}
use Rattle.prta_sheet.specs.Weights.{one_if, jobs_of}
use Rattle.prta_sheet.proofs.Each.{Each-weaker}
use Rattle.prta_jobs.specs.Permutation.{is_above}
use Rattle.prta_jobs.specs.Laws.{HasPlaces, IsBefore}
use Rattle.prta_jobs.proofs.OrderLists.{each_once, places}
use Rattle.prta_jobs.proofs.JobsBefore.{are_before}
use Rattle.prta_jobs.specs.Backlog.{backlog_at, delayed, released_until, released_after, level_jobs, jobs_above, finish_by_backlog}
use Rattle.prta_ticksim.specs.ScheduleToBacklog.{IsListed, ScheduleToBacklog}
use Rattle.prta_ticksim.proofs.Each.{Pairs, Pairs-from_map}
use Rattle.prta_ticksim.proofs.JobOrder.{InOrder, before_in_order}
use Rattle.prta_ticksim.proofs.Places.{same_place}
use Rattle.prta_audsley.specs.Greedy.{IsPartOf}
use Rattle.prta_audsley.specs.Fewer.{HasFewerAbove, FewerLengthenNoFinish}
use Rattle.prta_audsley.proofs.Filters.{filter-filter}

abbrev pub ByRelease : Timed → Timed → Type 0
ByRelease a b = a.job.release ≤ b.job.release

-- ---- fewer jobs

module _ (p q : Timed → Bool) (sub : (e : Timed) → q e ≡ true → p e ≡ true) where
  -- the backlog of fewer jobs: c at an earlier time against b
  backlog_fewer : (t : ℕ) → ((e : Timed) → p e ≡ true → e.job.release ≤ t) → (a : List Timed) → Pairs ByRelease a → (b c since since' : ℕ) → Each (λ e. since ≤ e.job.release) a →
      since' ≤ since → since ≤ t → c ≤ b + (since - since') → backlog_at c since' (filter q a) t ≤ backlog_at b since (filter p a) t
  backlog_fewer t until [] sorted b c since since' late s u h = omega arith
  backlog_fewer t until (e ∷ a) sorted b c since since' late s u h = ⊎_elim
      (λ (in_q : q e ≡ true).
      let in_p : p e ≡ true = sub e in_q in
      let time : e.job.release ≤ t = until e in_p in
      let first : since ≤ e.job.release = late.0 in
      rw (in_p, in_q) (backlog_fewer t until a sorted.1 ((b - (e.job.release - since)) + e.time) ((c - (e.job.release - since')) + e.time) e.job.release e.job.release sorted.0 (omega arith) time (omega arith)))
      (λ (out_q : q e ≡ false). ⊎_elim
      (λ (in_p : p e ≡ true).
      let time : e.job.release ≤ t = until e in_p in
      let first : since ≤ e.job.release = late.0 in
      rw (in_p, out_q) (backlog_fewer t until a sorted.1 ((b - (e.job.release - since)) + e.time) c e.job.release since' sorted.0 (omega arith) time (omega arith)))
      (λ (out_p : p e ≡ false). rw (out_p, out_q) (backlog_fewer t until a sorted.1 b c since since' late.1 s u h))
      (cases_Bool (p e)))
      (cases_Bool (q e))

  -- fewer delays
  delayed_fewer : (r : ℕ) (a : List Timed) (y z : ℕ) → z ≤ y → delayed r z (filter q a) ≤ delayed r y (filter p a)
  delayed_fewer r [] y z h = h
  delayed_fewer r (e ∷ a) y z h = ⊎_elim
      (λ (in_q : q e ≡ true).
      let in_p : p e ≡ true = sub e in_q in
      rw (in_p, in_q) (delayed_fewer r a _ _ (both y z (e.job.release - r) e.time h)))
      (λ (out_q : q e ≡ false). ⊎_elim
      (λ (in_p : p e ≡ true). rw (in_p, out_q) (delayed_fewer r a _ z (alone y z (e.job.release - r) e.time h)))
      (λ (out_p : p e ≡ false). rw (out_p, out_q) (delayed_fewer r a y z h))
      (cases_Bool (p e)))
      (cases_Bool (q e))
    where
      both : (y z d c : ℕ) → z ≤ y → (if nat_lt d z then z + c else z) ≤ (if nat_lt d y then y + c else y)
      both y z d c h = grind (arith, nat_tests)

      alone : (y z d c : ℕ) → z ≤ y → z ≤ (if nat_lt d y then y + c else y)
      alone y z d c h = grind (arith, nat_tests)

-- ---- the finish of a job, under two orders: what stands above its task in the second stands above it in the first

module _ (order fewer : List ℕ) (own : ℕ) (listed : place fewer own < length fewer) (above : IsPartOf (is_above fewer own) (is_above order own)) where
  within : (i : ℕ) → nat_le (place fewer i) (place fewer own) ≡ true → nat_le (place order i) (place order own) ≡ true
  within i e =
      let low : place fewer i ≤ place fewer own = leb-true (place fewer i) (place fewer own) e in
      ⊎_elim
      (λ (l : place fewer i < place fewer own).
      let higher : place order i < place order own = ltb-true (place order i) (place order own) (above i (lt-ltb (place fewer i) (place fewer own) l)) in
      le-leb (place order i) (place order own) (omega arith))
      (λ (l : place fewer own ≤ place fewer i).
      let same : i ≡ own = same_place fewer i own listed (omega arith) in
      le-leb (place order i) (place order own) (let q : place order i ≡ place order own = ap (place order) same in omega arith))
      (cases_lt (place fewer i) (place fewer own))

  -- the response time is no longer
  pub ticks_fewer : (r : ℕ) (jobs : List Timed) → Pairs ByRelease jobs →
      delayed r (backlog_at 0 0 (released_until r (level_jobs fewer own jobs)) r) (released_after r (jobs_above fewer own jobs))
      ≤ delayed r (backlog_at 0 0 (released_until r (level_jobs order own jobs)) r) (released_after r (jobs_above order own jobs))
  ticks_fewer r jobs sorted =
      let until : Timed → Bool = λ e. nat_le e.job.release r in
      let later : Timed → Bool = λ e. nat_lt r e.job.release in
      let in_level : List ℕ → Timed → Bool = λ o e. nat_le (place o e.job.task) (place o own) in
      let higher : List ℕ → Timed → Bool = λ o e. nat_lt (place o e.job.task) (place o own) in
      rw (filter-filter until (in_level order) jobs, filter-filter until (in_level fewer) jobs, filter-filter later (higher order) jobs, filter-filter later (higher fewer) jobs)
      (delayed_fewer (λ e. later e && higher order e) (λ e. later e && higher fewer e)
      (λ e h.
      let both : (later e ≡ true) × (higher fewer e ≡ true) = and_parts (later e) (higher fewer e) h in
      and_from (later e) (higher order e) both.0 (above e.job.task both.1))
      r jobs _ _
      (backlog_fewer (λ e. until e && in_level order e) (λ e. until e && in_level fewer e)
      (λ e h.
      let both : (until e ≡ true) × (in_level fewer e ≡ true) = and_parts (until e) (in_level fewer e) h in
      and_from (until e) (in_level order e) both.0 (within e.job.task both.1))
      r (λ e h. leb-true e.job.release r ((and_parts (until e) (in_level order e) h).0)) jobs sorted 0 0 0 0 (all_late jobs) (omega arith) (omega arith) (omega arith)))
    where
      all_late : (jobs : List Timed) → Each (λ e. 0 ≤ e.job.release) jobs
      all_late [] = tt
      all_late (e ∷ jobs) = (omega arith, all_late jobs)

-- ---- on the machine

module _ (schedule : ScheduleToBacklog) (tasks : List Task) (t : ℕ) (order fewer : List ℕ) (start : List Timed) (job : Job) (is : IsListed tasks t order start job) (too : IsListed tasks t fewer start job)
    (above : HasFewerAbove order fewer job.task) where
  sorted : Pairs ByRelease start
  sorted =
      Pairs-from_map (λ (a b : Job). a.release ≤ b.release) (λ (e : Timed). e.job) start
      (by_release (jobs_of start) (subst (Pairs InOrder) (sym is.whole) (before_in_order tasks t)))
    where
      by_release : (jobs : List Job) → Pairs InOrder jobs → Pairs (λ (a b : Job). a.release ≤ b.release) jobs
      by_release [] h = tt
      by_release (job ∷ jobs) h = (Each-weaker (InOrder job) _ (λ b o. o.0) jobs h.0, by_release jobs h.1)

  own_listed : place fewer job.task < length fewer
  own_listed =
      let at : HasPlaces (length tasks) fewer = places (length tasks) fewer (each_once (length tasks) fewer too.permutation) in
      let low : job.task < length tasks = (All-contains (IsBefore tasks t) (jobs_before tasks t) job (are_before tasks t) is.listed).task in
      omega (arith, at.place_below job.task low, at.length_is)

  pub backlog_finish_fewer : finish_by_backlog fewer start job ≤ finish_by_backlog order start job
  backlog_finish_fewer = omega (arith, ticks_fewer order fewer job.task own_listed above job.release start sorted)

  -- it finishes no later
  pub finish_fewer : (n m : ℕ) → IsFinish order start job n → IsFinish fewer start job m → m ≤ n
  finish_fewer n m at_n at_m = omega (arith, schedule.only tasks t order start job is n at_n, schedule.only tasks t fewer start job too m at_m, backlog_finish_fewer)

  -- and misses a deadline only where it did
  pub miss_fewer : (deadline : ℕ) → one_if (misses fewer job deadline start) ≤ one_if (misses order job deadline start)
  miss_fewer deadline =
      rw (schedule.miss tasks t order start job is deadline, schedule.miss tasks t fewer start job too deadline)
      (earlier deadline (finish_by_backlog fewer start job) (finish_by_backlog order start job) backlog_finish_fewer)
    where
      earlier : (d m n : ℕ) → m ≤ n → one_if (nat_lt d m) ≤ one_if (nat_lt d n)
      earlier d m n h = grind (arith, nat_tests)

pub fewer_lengthen_no_finish : ScheduleToBacklog → FewerLengthenNoFinish
fewer_lengthen_no_finish schedule tasks t order fewer start job n m is too above at_n at_m = finish_fewer schedule tasks t order fewer start job is too above n m at_n at_m
