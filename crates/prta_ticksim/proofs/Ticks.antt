-- What ticks make of the times left: a stretch without releases, in which one job is served or none is.
use Rattle.std.proofs.Common.{◌≡◌, ℕ, zero, suc, ◌+◌, ◌-◌, ◌<◌, ◌≤◌, Bool, true, if◌then◌else◌, List, length, get_or, map, ap, sym, ◌∙◌, arith, inl, inr}
use Rattle.std.proofs.Math.ListN.{set}
use Rattle.std.proofs.lemmas.Bool.{cases_eq, cases_lt, false_from_ne_true, both_ways}
use Rattle.std.proofs.lemmas.List.{length-map, get_or-map, get_or-set_same, get_or-set_other, length-set, ext_get_or, set-get_or, set-set}
use Rattle.prta_sheet.specs.Job.{Job}
use Rattle.prta_sheet.specs.Assignment.{Timed}
use Rattle.prta_sheet.specs.Machine.{tick, after}
use Rattle.prta_ticksim.specs.Times.{timed_jobs, job_at}
use Rattle.prta_ticksim.specs.Serving.{AreApart, is_waiting, IsFirstOf, NoneWaits}
use Rattle.prta_ticksim.proofs.TimedJobs.{timed_at, no_timed, length-timed, timed_get}
use Rattle.prta_ticksim.proofs.Ticked.{ticked}
use Rattle.prta_ticksim.proofs.Waiting.{waiting_parts, waiting_from, serves, none_served, served_here, not_served_elsewhere}

module _ (order : List ℕ) (jobs : List Job) where
  -- a tick, place by place
  tick_by_places : (t : ℕ) (left next : List ℕ) → length left ≡ length jobs → length next ≡ length jobs →
      ((i : ℕ) → i < length jobs → ticked order t (timed_jobs jobs left) (timed_at jobs left i) ≡ timed_at jobs next i) →
      tick order t (timed_jobs jobs left) ≡ timed_jobs jobs next
  tick_by_places t left next each each_next same =
      let state : List Timed = timed_jobs jobs left in
      let f : Timed → Timed = ticked order t state in
      let many : length (map f state) ≡ length jobs = omega (arith, length-map state f, length-timed jobs left each) in
      ext_get_or no_timed (map f state) (timed_jobs jobs next) (omega (arith, length-timed jobs next each_next))
      (λ i low.
      let within : i < length jobs = omega arith in
      get_or-map f state i no_timed no_timed (omega (arith, length-timed jobs left each))
      ∙ ap f (timed_get jobs left each i no_timed within)
      ∙ same i within
      ∙ sym (timed_get jobs next each_next i no_timed within))

  -- no tick is taken where none waits
  pub idle_tick : (t : ℕ) (left : List ℕ) → length left ≡ length jobs → NoneWaits jobs left t (length jobs) → tick order t (timed_jobs jobs left) ≡ timed_jobs jobs left
  idle_tick t left each none =
      tick_by_places t left left each each
      (λ i low. ap (λ (b : Bool). if b then record (timed_at jobs left i) { time = get_or left i 0 - 1 } else timed_at jobs left i) (none_served order jobs left each t none i low))

  -- the first waiting job loses 1
  pub busy_tick : AreApart order jobs → (t : ℕ) (left : List ℕ) (k : ℕ) → length left ≡ length jobs → IsFirstOf order jobs left t (length jobs) k →
      tick order t (timed_jobs jobs left) ≡ timed_jobs jobs (set left k (get_or left k 0 - 1))
  busy_tick apart t left k each first =
      let next : List ℕ = set left k (get_or left k 0 - 1) in
      tick_by_places t left next each (omega (arith, length-set left k (get_or left k 0 - 1)))
      (λ i low. elim (cases_eq i k) [
        | inl same ↦
            let lost : get_or next i 0 ≡ get_or left i 0 - 1 = rw same (get_or-set_same left k (get_or left k 0 - 1) 0 (omega (arith, first.listed))) in
            let here : serves order jobs left each t i ≡ true = rw same (served_here order jobs left each t k first) in
            ap (λ (b : Bool). if b then record (timed_at jobs left i) { time = get_or left i 0 - 1 } else timed_at jobs left i) here
            ∙ ap (λ (time : ℕ). record { job = job_at jobs i; time = time }) (sym lost)
        | inr other ↦
            let kept : get_or next i 0 ≡ get_or left i 0 = get_or-set_other left k i (get_or left k 0 - 1) 0 other in
            ap (λ (b : Bool). if b then record (timed_at jobs left i) { time = get_or left i 0 - 1 } else timed_at jobs left i) (not_served_elsewhere order jobs left each t k first apart i low other)
            ∙ ap (λ (time : ℕ). record { job = job_at jobs i; time = time }) (sym kept)
      ])

-- no job is released from after t to before t + steps
abbrev pub IsQuiet : List Job → ℕ → ℕ → Type 0
IsQuiet jobs t steps = (i : ℕ) → i < length jobs → t < (job_at jobs i).release → t + steps ≤ (job_at jobs i).release

module _ (order : List ℕ) (jobs : List Job) (t steps : ℕ) (quiet : IsQuiet jobs t steps) where
  -- so what waits in it waited at its start, with as much time
  waited : (left : List ℕ) (n i : ℕ) → n < steps → i < length jobs → is_waiting jobs left (t + n) i ≡ true → is_waiting jobs left t i ≡ true
  waited left n i within low waits =
      let parts : ((job_at jobs i).release ≤ t + n) × (0 < get_or left i 0) = waiting_parts jobs left (t + n) i waits in
      elim (cases_lt t (job_at jobs i).release) [
        | inl later ↦ absurd (omega (arith, quiet i low later, parts.0))
        | inr released ↦ waiting_from jobs left t i released parts.1
      ]

  -- one step more of a stretch
  next_tick : (start : List Timed) (n : ℕ) (left next : List ℕ) → after order start (t + n) ≡ timed_jobs jobs left → tick order (t + n) (timed_jobs jobs left) ≡ timed_jobs jobs next →
      after order start (t + suc n) ≡ timed_jobs jobs next
  next_tick start n left next before ticks =
      let more : t + suc n ≡ suc (t + n) = omega arith in
      ap (after order start) more ∙ ap (tick order (t + n)) before ∙ ticks

  module _ (left : List ℕ) (each : length left ≡ length jobs) where
    -- ---- where none waits

    pub still_none : NoneWaits jobs left t (length jobs) → (n : ℕ) → n < steps → NoneWaits jobs left (t + n) (length jobs)
    still_none none n within i low =
        false_from_ne_true (is_waiting jobs left (t + n) i) (λ waits. both_ways (is_waiting jobs left t i) (none i low) (waited left n i within low waits))

    pub idle_stretch : NoneWaits jobs left t (length jobs) → (start : List Timed) → after order start t ≡ timed_jobs jobs left → (n : ℕ) → n ≤ steps → after order start (t + n) ≡ timed_jobs jobs left
    idle_stretch none start now zero within = let same : t + 0 ≡ t = omega arith in ap (after order start) same ∙ now
    idle_stretch none start now (suc n) within =
        next_tick start n left left (idle_stretch none start now n (omega arith)) (idle_tick order jobs (t + n) left each (still_none none n (omega arith)))

    -- ---- where job k is the first to wait

    -- the times left when job k has lost n
    abbrev pub lowered : ℕ → ℕ → List ℕ
    lowered k n = set left k (get_or left k 0 - n)

    length-lowered : (k n : ℕ) → length (lowered k n) ≡ length jobs
    length-lowered k n = length-set left k (get_or left k 0 - n) ∙ each

    module _ (k : ℕ) (first : IsFirstOf order jobs left t (length jobs) k) (enough : steps ≤ get_or left k 0) where
      own : (n : ℕ) → get_or (lowered k n) k 0 ≡ get_or left k 0 - n
      own n = get_or-set_same left k (get_or left k 0 - n) 0 (omega (arith, first.listed))

      -- with time left at the start
      was_left : (n i : ℕ) → 0 < get_or (lowered k n) i 0 → 0 < get_or left i 0
      was_left n i some =
          elim (cases_eq i k) [
            | inl same ↦ rw same (waiting_parts jobs left t k first.waiting).1
            | inr other ↦ let kept : get_or (lowered k n) i 0 ≡ get_or left i 0 = get_or-set_other left k i (get_or left k 0 - n) 0 other in omega arith
          ]

      pub still_first : (n : ℕ) → n < steps → IsFirstOf order jobs (lowered k n) (t + n) (length jobs) k
      still_first n within =
          let own_parts : ((job_at jobs k).release ≤ t) × (0 < get_or left k 0) = waiting_parts jobs left t k first.waiting in
          record {
            listed = first.listed;
            waiting = waiting_from jobs (lowered k n) (t + n) k (omega (arith, own_parts.0)) (omega (arith, own n));
            first = λ i low waits.
                let parts : ((job_at jobs i).release ≤ t + n) × (0 < get_or (lowered k n) i 0) = waiting_parts jobs (lowered k n) (t + n) i waits in
                first.first i low (waited left n i within low (waiting_from jobs left (t + n) i parts.0 (was_left n i parts.1)));
          }

      pub busy_stretch : AreApart order jobs → (start : List Timed) → after order start t ≡ timed_jobs jobs left → (n : ℕ) → n ≤ steps → after order start (t + n) ≡ timed_jobs jobs (lowered k n)
      busy_stretch apart start now zero within =
          let same : t + 0 ≡ t = omega arith in
          let none_lost : get_or left k 0 - 0 ≡ get_or left k 0 = omega arith in
          ap (after order start) same ∙ now ∙ ap (timed_jobs jobs) (sym (ap (set left k) none_lost ∙ set-get_or left k 0))
      busy_stretch apart start now (suc n) within =
          let lost : get_or (lowered k n) k 0 - 1 ≡ get_or left k 0 - suc n = omega (arith, own n) in
          let twice : set (lowered k n) k (get_or (lowered k n) k 0 - 1) ≡ lowered k (suc n) = ap (set (lowered k n) k) lost ∙ set-set left k (get_or left k 0 - n) (get_or left k 0 - suc n) in
          next_tick start n (lowered k n) (lowered k (suc n)) (busy_stretch apart start now n (omega arith))
          (busy_tick order jobs apart (t + n) (lowered k n) k (length-lowered k n) (still_first n (omega arith)) ∙ ap (timed_jobs jobs) twice)
