-- What the parts of a machine say of the model's state.
use Rattle.std.proofs.Common.{◌≡◌, ℕ, ◌+◌, ◌-◌, ◌<◌, ◌≤◌, ◌^◌, min, Option, Some, None, List, length, get_or, position, ap, sym, subst, ◌∙◌, arith, inl, inr}
use Rattle.std.proofs.Math.ListN.{set}
use Rattle.std.proofs.lemmas.Bool.{cases_eq}
use Rattle.std.proofs.lemmas.List.{get_or_default, get_or-set_same, get_or-set_other, length-set}
use Rattle.prta_sheet.specs.Job.{Job}
use Rattle.prta_sheet.specs.Assignment.{Timed}
use Rattle.prta_sheet.specs.Machine.{is_served, after, remaining, IsFinish}
use Rattle.prta_ticksim.specs.Times.{timed_jobs, job_at}
use Rattle.prta_ticksim.specs.Serving.{AreApart, IsFirstOf, NoneWaits, IsNextEvent}
use Rattle.prta_ticksim.specs.Machine.{IsMachine}
use Rattle.prta_ticksim.proofs.Waiting.{runs_here, none_runs, waiting_parts}
use Rattle.prta_ticksim.proofs.Ticks.{IsQuiet, idle_stretch, still_none, busy_stretch, still_first}
use Rattle.prta_ticksim.proofs.Finishes.{remaining_at, left_after, left_is, finish_is}

module _ (order : List ℕ) (jobs : List Job) (times left ends : List ℕ) (horizon now : ℕ) (kept : IsMachine order jobs times left ends horizon now) where
  abbrev start : List Timed
  start = timed_jobs jobs times

  -- the time left to a job is the model's
  pub kept_remaining : (i x : ℕ) → i < length jobs → x ≡ get_or left i x → x ≡ remaining (job_at jobs i) (after order start now)
  kept_remaining i x low is =
      is
      ∙ get_or_default left i x 0 (omega (arith, kept.left_each))
      ∙ sym (remaining_at order jobs kept.apart left kept.left_each i low)
      ∙ ap (remaining (job_at jobs i)) kept.state

  -- what runs in tick t
  abbrev runs : ℕ → Option ℕ
  runs t = position (is_served order t (after order start t)) (after order start t)

  quiet_until : (limit event steps : ℕ) → IsNextEvent jobs now limit (length jobs) event → now + steps ≤ event → IsQuiet jobs now steps
  quiet_until limit event steps is within i low later = omega (arith, is.quiet i low later)

  -- ---- where none waits

  module _ (none : NoneWaits jobs left now (length jobs)) (limit event : ℕ) (is : IsNextEvent jobs now limit (length jobs) event) (within : limit ≤ horizon) where
    idle_quiet : IsQuiet jobs now (event - now)
    idle_quiet = quiet_until limit event (event - now) is (omega (arith, is.later))

    idle_state : (n : ℕ) → now ≤ n → n ≤ event → after order start n ≡ timed_jobs jobs left
    idle_state n low high =
        let split : now + (n - now) ≡ n = omega arith in
        let State : ℕ → Type 0 = λ m. after order start m ≡ timed_jobs jobs left in
        subst State split (idle_stretch order jobs now (event - now) idle_quiet left kept.left_each none start (sym kept.state) (n - now) (omega arith))

    pub idle_kept : IsMachine order jobs times left ends horizon event
    idle_kept = record {
      times_each = kept.times_each;
      left_each = kept.left_each;
      ends_each = kept.ends_each;
      apart = kept.apart;
      state = sym (idle_state event (omega (arith, is.later)) (omega arith));
      finished = kept.finished;
      within = omega (arith, is.within);
      near = kept.near;
    }

    pub idle_runs : (n : ℕ) → now ≤ n → n < event → runs n ≡ None
    idle_runs n low high =
        let split : now + (n - now) ≡ n = omega arith in
        let Rests : ℕ → Type 0 = λ m. NoneWaits jobs left m (length jobs) in
        let still : NoneWaits jobs left n (length jobs) = subst Rests split (still_none order jobs now (event - now) idle_quiet left kept.left_each none (n - now) (omega arith)) in
        subst (λ (state : List Timed). position (is_served order n state) state ≡ None) (sym (idle_state n low (omega arith))) (none_runs order jobs left kept.left_each n still)

  -- ---- where job k is the first to wait

  module _ (k : ℕ) (first : IsFirstOf order jobs left now (length jobs) k) (limit event steps : ℕ) (is : IsNextEvent jobs now limit (length jobs) event) (within : limit ≤ horizon)
      (short : now + steps ≤ event) (enough : steps ≤ get_or left k 0) where
    quiet : IsQuiet jobs now steps
    quiet = quiet_until limit event steps is short

    busy_state : (n : ℕ) → n ≤ steps → after order start (now + n) ≡ timed_jobs jobs (set left k (get_or left k 0 - n))
    busy_state n most = busy_stretch order jobs now steps quiet left kept.left_each k first enough kept.apart start (sym kept.state) n most

    pub busy_runs : (n : ℕ) → now ≤ n → n < now + steps → runs n ≡ Some k
    busy_runs n low high =
        let m : ℕ = n - now in
        let split : now + m ≡ n = omega arith in
        let Runs : ℕ → Type 0 = λ t. runs t ≡ Some k in
        subst Runs split
        (subst (λ (state : List Timed). position (is_served order (now + m) state) state ≡ Some k) (sym (busy_state m (omega arith)))
        (runs_here order jobs (set left k (get_or left k 0 - m)) (length-set left k (get_or left k 0 - m) ∙ kept.left_each) (now + m) k (still_first order jobs now steps quiet left kept.left_each k first enough m (omega arith)) kept.apart))

    -- the job's end, where it has no time left
    busy_end : 1 ≤ steps → get_or left k 0 ≡ steps → IsFinish order start (job_at jobs k) (now + steps)
    busy_end some all =
        let n : ℕ = steps - 1 in
        let at : now + n + 1 ≡ now + steps = omega arith in
        let last : now + steps ≡ now + n + 1 = omega arith in
        let left_at : (m : ℕ) → m ≤ steps → get_or (left_after order jobs kept.apart times kept.times_each (now + m)) k 0 ≡ get_or left k 0 - m =
        λ m most.
        ap (λ (xs : List ℕ). get_or xs k 0) (left_is order jobs kept.apart times kept.times_each (now + m) (set left k (get_or left k 0 - m)) (length-set left k (get_or left k 0 - m) ∙ kept.left_each) (busy_state m most))
        ∙ get_or-set_same left k (get_or left k 0 - m) 0 (omega (arith, kept.left_each, first.listed)) in
        let Finishes : ℕ → Type 0 = λ t. IsFinish order start (job_at jobs k) t in
        let Left : ℕ → Type 0 = λ t. get_or (left_after order jobs kept.apart times kept.times_each t) k 0 ≡ get_or left k 0 - steps in
        let none : get_or (left_after order jobs kept.apart times kept.times_each (now + n + 1)) k 0 ≡ 0 = omega (arith, subst Left last (left_at steps (omega arith))) in
        subst Finishes at (finish_is order jobs kept.apart times kept.times_each (now + n) k first.listed (omega (arith, left_at n (omega arith))) none)

    pub busy_kept : 1 ≤ steps → IsMachine order jobs times (set left k (get_or left k 0 - steps)) (set ends k (now + steps)) horizon (now + steps)
    busy_kept some = record {
      times_each = kept.times_each;
      left_each = length-set left k (get_or left k 0 - steps) ∙ kept.left_each;
      ends_each = length-set ends k (now + steps) ∙ kept.ends_each;
      apart = kept.apart;
      state = sym (busy_state steps (omega arith));
      finished = λ i below none. elim (cases_eq i k) [
        | inl same ↦
            let own : get_or (set left k (get_or left k 0 - steps)) k 0 ≡ get_or left k 0 - steps = get_or-set_same left k (get_or left k 0 - steps) 0 (omega (arith, kept.left_each, first.listed)) in
            let gone : get_or (set left k (get_or left k 0 - steps)) k 0 ≡ 0 = rw same at none in
            let end : get_or (set ends k (now + steps)) k 0 ≡ now + steps = get_or-set_same ends k (now + steps) 0 (omega (arith, kept.ends_each, first.listed)) in
            rw (same, end) (busy_end some (omega arith))
        | inr other ↦
            let left_same : get_or (set left k (get_or left k 0 - steps)) i 0 ≡ get_or left i 0 = get_or-set_other left k i (get_or left k 0 - steps) 0 other in
            let end_same : get_or (set ends k (now + steps)) i 0 ≡ get_or ends i 0 = get_or-set_other ends k i (now + steps) 0 other in
            rw end_same (kept.finished i below (sym left_same ∙ none))
      ];
      within = omega (arith, is.within);
      near = kept.near;
    }

  -- the same, at the time to which the job is served
  module _ (k : ℕ) (first : IsFirstOf order jobs left now (length jobs) k) (limit event time : ℕ) (is : IsNextEvent jobs now limit (length jobs) event) (within : limit ≤ horizon)
      (at : time ≡ now + min (event - now) (get_or left k 0)) where
    abbrev steps : ℕ
    steps = time - now

    whole : now + steps ≡ time
    whole = omega arith

    short : now + steps ≤ event
    short = omega (arith, is.later)

    enough : steps ≤ get_or left k 0
    enough = omega arith

    some : 1 ≤ steps
    some = omega (arith, is.later, (waiting_parts jobs left now k first.waiting).1)

    pub served_kept : IsMachine order jobs times (set left k (get_or left k 0 - steps)) (set ends k time) horizon time
    served_kept =
        let Kept : ℕ → Type 0 = λ t. IsMachine order jobs times (set left k (get_or left k 0 - steps)) (set ends k t) horizon t in
        subst Kept whole (busy_kept k first limit event steps is within short enough some)

    pub served_runs : (n : ℕ) → now ≤ n → n < time → runs n ≡ Some k
    served_runs n low high = busy_runs k first limit event steps is within short enough n low (omega (arith, whole))

    pub served_parts : (new_left new_ends : List ℕ) → new_left ≡ set left k (get_or left k 0 - (time - now)) → new_ends ≡ set ends k time → IsMachine order jobs times new_left new_ends horizon time
    served_parts new_left new_ends left_is ends_is = rw (left_is, ends_is) served_kept

-- before the first tick
pub kept_at_start : (order : List ℕ) (jobs : List Job) (times left ends : List ℕ) (horizon : ℕ) → length times ≡ length jobs → ((i : ℕ) → i < length jobs → 0 < get_or times i 0) → AreApart order jobs → horizon ≤ 2 ^ 32 →
    left ≡ times → length ends ≡ length times → IsMachine order jobs times left ends horizon 0
kept_at_start order jobs times left ends horizon each some apart near same ends_each = record {
  times_each = each;
  left_each = ap length same ∙ each;
  ends_each = ends_each ∙ each;
  apart = apart;
  state = ap (timed_jobs jobs) same;
  finished = λ i low none. absurd (omega (arith, some i low, ap (λ (xs : List ℕ). get_or xs i 0) same));
  within = omega arith;
  near = near;
}
