-- The time left to one job, and its finish.
use Rattle.std.proofs.Common.{◌≡◌, ℕ, zero, suc, ◌+◌, ◌-◌, ◌<◌, ◌≤◌, Bool, true, false, ◌&&◌, ◌||◌, nat_lt, nat_eq, List, [], ◌∷◌, length, get_or, map, filter, sum_by, All, refl, ap, sym, ◌∙◌, arith}
use Rattle.std.proofs.lemmas.Bool.{eq-eqb, eqb-true, and_from, and_parts, false_from_ne_true}
use Rattle.std.proofs.lemmas.Bool.Decides.{nat_tests}
use Rattle.std.proofs.lemmas.List.{length-map}
use Rattle.std.proofs.lemmas.List.Elements.{All-from_get_or, recursion_from_All}
use Rattle.std.proofs.lemmas.List.Sums.{sum_by-cons}
use Rattle.prta_sheet.specs.Job.{Job}
use Rattle.prta_sheet.specs.Assignment.{Timed}
use Rattle.prta_sheet.specs.Machine.{place, goes_before, after, is_job, remaining, IsFinish}
use Rattle.prta_sheet.specs.Weights.{jobs_of}
use Rattle.prta_ticksim.specs.Times.{timed_jobs, job_at}
use Rattle.prta_ticksim.specs.Serving.{AreApart}
use Rattle.prta_ticksim.proofs.Each.{filter_none}
use Rattle.prta_ticksim.proofs.TimedJobs.{timed_at, no_timed, length-timed, timed_get, timed_parts, jobs_of_timed, times_of_timed}
use Rattle.prta_ticksim.proofs.Ticked.{jobs_after, remaining_later}

-- jobs of one task and release: none goes before the other
equal_not_before : (order : List ℕ) (a b : Job) → a.task ≡ b.task → a.release ≡ b.release → goes_before order a b ≡ false
equal_not_before order a b task release = by_numbers (place order a.task) (place order b.task) a.release b.release (ap (place order) task) release
  where
    by_numbers : (p q r s : ℕ) → p ≡ q → r ≡ s → (nat_lt p q || (nat_eq p q && nat_lt r s)) ≡ false
    by_numbers p q r s same equal = grind (arith, nat_tests)

-- the only element that passes
filter_only : {X : Type 0} (p : X → Bool) (xs : List X) (k : ℕ) (d : X) → k < length xs → p (get_or xs k d) ≡ true → ((i : ℕ) → i < length xs → (i ≡ k → ⊥) → p (get_or xs i d) ≡ false) → filter p xs ≡ get_or xs k d ∷ []
filter_only p [] k d low here other = absurd (omega arith)
filter_only p (x ∷ xs) zero d low here other =
    let none : All (λ y. p y ≡ false) xs = All-from_get_or (λ y. p y ≡ false) xs d (λ i l. other (suc i) (omega arith) (λ e. omega arith)) in
    rw here (ap (λ rest. x ∷ rest) (filter_none p xs (recursion_from_All (λ y. p y ≡ false) xs none)))
filter_only p (x ∷ xs) (suc k) d low here other =
    let no : p x ≡ false = other 0 (omega arith) (λ e. omega arith) in
    rw no (filter_only p xs k d (omega arith) here (λ i l ne. other (suc i) (omega arith) (λ e. ne (omega arith))))

module _ (order : List ℕ) (jobs : List Job) (apart : AreApart order jobs) where
  -- the time that remains to a listed job is the one at its place
  pub remaining_at : (left : List ℕ) → length left ≡ length jobs → (i : ℕ) → i < length jobs → remaining (job_at jobs i) (timed_jobs jobs left) ≡ get_or left i 0
  remaining_at left each i low =
      let job : Job = job_at jobs i in
      let many : length (timed_jobs jobs left) ≡ length jobs = length-timed jobs left each in
      let is_own : is_job job (timed_at jobs left i) ≡ true = and_from (nat_eq job.task job.task) (nat_eq job.release job.release) (eq-eqb job.task job.task refl) (eq-eqb job.release job.release refl) in
      let only : filter (is_job job) (timed_jobs jobs left) ≡ timed_at jobs left i ∷ [] =
      filter_only (is_job job) (timed_jobs jobs left) i no_timed (omega arith) (ap (is_job job) (timed_get jobs left each i no_timed low) ∙ is_own)
      (λ k l other. ap (is_job job) (timed_get jobs left each k no_timed (omega arith))
      ∙ false_from_ne_true (is_job job (timed_at jobs left k)) (λ same.
      let parts : (nat_eq (job_at jobs k).task job.task ≡ true) × (nat_eq (job_at jobs k).release job.release ≡ true) = and_parts (nat_eq (job_at jobs k).task job.task) (nat_eq (job_at jobs k).release job.release) same in
      let task : (job_at jobs k).task ≡ job.task = eqb-true (job_at jobs k).task job.task parts.0 in
      let release : (job_at jobs k).release ≡ job.release = eqb-true (job_at jobs k).release job.release parts.1 in
      other (apart k i (omega arith) low (equal_not_before order (job_at jobs k) job task release) (equal_not_before order job (job_at jobs k) (sym task) (sym release)))))
      ∙ ap (λ e. e ∷ []) (timed_get jobs left each i no_timed low) in
      ap (sum_by (λ e. e.time)) only ∙ omega (arith, sum_by-cons (λ (e : Timed). e.time) (timed_at jobs left i) [])

  module _ (times : List ℕ) (each : length times ≡ length jobs) where
    abbrev start : List Timed
    start = timed_jobs jobs times

    -- the times left after n ticks
    abbrev pub left_after : ℕ → List ℕ
    left_after n = map (λ e. e.time) (after order start n)

    listed_after : (n : ℕ) → jobs_of (after order start n) ≡ jobs
    listed_after n = jobs_after order start n ∙ jobs_of_timed jobs times each

    state_parts : (n : ℕ) → after order start n ≡ timed_jobs jobs (left_after n)
    state_parts n = sym (timed_parts (after order start n)) ∙ ap (λ (js : List Job). timed_jobs js (left_after n)) (listed_after n)

    length-left : (n : ℕ) → length (left_after n) ≡ length jobs
    length-left n =
        let f : Timed → Job = λ e. e.job in
        let g : Timed → ℕ = λ e. e.time in
        omega (arith, length-map (after order start n) f, length-map (after order start n) g, ap length (listed_after n))

    pub remaining_after : (n i : ℕ) → i < length jobs → remaining (job_at jobs i) (after order start n) ≡ get_or (left_after n) i 0
    remaining_after n i low = ap (remaining (job_at jobs i)) (state_parts n) ∙ remaining_at (left_after n) (length-left n) i low

    -- a job finishes with the tick after which it has no time left, and before which it had some
    pub finish_is : (n i : ℕ) → i < length jobs → 0 < get_or (left_after n) i 0 → get_or (left_after (n + 1)) i 0 ≡ 0 → IsFinish order start (job_at jobs i) (n + 1)
    finish_is n i low some none = record {
      done = remaining_after (n + 1) i low ∙ none;
      least = λ m before.
          let split : (n - m) + m ≡ n = omega arith in
          let falls : remaining (job_at jobs i) (after order start n) ≤ remaining (job_at jobs i) (after order start m) = rw split at (remaining_later order (job_at jobs i) start m (n - m)) in
          omega (arith, remaining_after n i low, falls);
    }

    -- the times left where the state is known
    pub left_is : (n : ℕ) (left : List ℕ) → length left ≡ length jobs → after order start n ≡ timed_jobs jobs left → left_after n ≡ left
    left_is n left many now = ap (map (λ e. e.time)) now ∙ times_of_timed jobs left many
