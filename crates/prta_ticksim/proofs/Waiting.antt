-- The first waiting job is the one that is served.
use Rattle.std.proofs.Common.{◌≡◌, ℕ, zero, suc, ◌<◌, ◌≤◌, Bool, true, false, not, ◌&&◌, nat_lt, nat_le, Option, Some, None, List, length, get_or, position, refl, ap, sym, ◌∙◌, arith, inl, inr, ◌⊎◌}
use Rattle.std.specs.List.{list_all}
use Rattle.std.proofs.lemmas.Bool.{both_ways, cases_Bool, cases_lt, false_from_ne_true, and_from, and_left, and_right, and_parts, true_from_ne_false, leb-true, ltb-true, le-leb, lt-ltb}
use Rattle.std.proofs.lemmas.List.Sums.{list_all-from_AllPass}
use Rattle.std.proofs.lemmas.List.Folds.{list_all_at}
use Rattle.prta_sheet.specs.Job.{Job}
use Rattle.prta_sheet.specs.Assignment.{Timed}
use Rattle.prta_sheet.specs.Machine.{is_pending, goes_before, is_served}
use Rattle.prta_ticksim.specs.Times.{timed_jobs, job_at}
use Rattle.prta_ticksim.specs.Serving.{AreApart, is_waiting, IsFirstOf, NoneWaits, IsFirstWaiting}
use Rattle.prta_ticksim.proofs.GoesBefore.{goes_on, goes_not_itself}
use Rattle.prta_ticksim.proofs.Positions.{position_here, position_nowhere}
use Rattle.prta_ticksim.proofs.TimedJobs.{timed_at, no_timed, length-timed, timed_get}

module _ (jobs : List Job) (left : List ℕ) (t i : ℕ) where
  pub waiting_parts : is_waiting jobs left t i ≡ true → ((job_at jobs i).release ≤ t) × (0 < get_or left i 0)
  waiting_parts h =
      let parts : (nat_le (job_at jobs i).release t ≡ true) × (nat_lt 0 (get_or left i 0) ≡ true) = and_parts (nat_le (job_at jobs i).release t) (nat_lt 0 (get_or left i 0)) h in
      (leb-true (job_at jobs i).release t parts.0, ltb-true 0 (get_or left i 0) parts.1)

  pub waiting_from : (job_at jobs i).release ≤ t → 0 < get_or left i 0 → is_waiting jobs left t i ≡ true
  waiting_from released some =
      and_from (nat_le (job_at jobs i).release t) (nat_lt 0 (get_or left i 0)) (le-leb (job_at jobs i).release t released) (lt-ltb 0 (get_or left i 0) some)

module _ (order : List ℕ) (jobs : List Job) (left : List ℕ) (each : length left ≡ length jobs) (t : ℕ) where
  abbrev pub state : List Timed
  state = timed_jobs jobs left

  abbrev pub serves : ℕ → Bool
  serves i = is_served order t state (timed_at jobs left i)

  -- none is served where none waits
  pub none_served : NoneWaits jobs left t (length jobs) → (i : ℕ) → i < length jobs → serves i ≡ false
  none_served none i low = and_left (is_waiting jobs left t i) (list_all (λ other. not (is_pending t other && goes_before order other.job (job_at jobs i))) state) (none i low)

  module _ (k : ℕ) (first : IsFirstOf order jobs left t (length jobs) k) where
    gives_way : (i : ℕ) → i < length jobs → not (is_waiting jobs left t i && goes_before order (job_at jobs i) (job_at jobs k)) ≡ true
    gives_way i low =
        elim (cases_Bool (is_waiting jobs left t i)) [
          | inl waits ↦ rw (waits, first.first i low waits) refl
          | inr not_yet ↦ rw not_yet refl
        ]

    abbrev way : ℕ → Timed → Bool
    way i other = not (is_pending t other && goes_before order other.job (job_at jobs i))

    pub served_here : serves k ≡ true
    served_here =
        and_from (is_waiting jobs left t k) (list_all (way k) state) first.waiting
        (list_all-from_AllPass (way k) state (λ i d low.
        let within : i < length jobs = omega (arith, length-timed jobs left each) in
        ap (way k) (timed_get jobs left each i d within) ∙ gives_way i within))

    pub not_served_elsewhere : AreApart order jobs → (i : ℕ) → i < length jobs → (i ≡ k → ⊥) → serves i ≡ false
    not_served_elsewhere apart i low other =
        elim (cases_Bool (is_waiting jobs left t i)) [
          | inl waits ↦
              let before : goes_before order (job_at jobs k) (job_at jobs i) ≡ true =
              true_from_ne_false (goes_before order (job_at jobs k) (job_at jobs i)) (λ not_before. other (apart i k low first.listed (first.first i low waits) not_before)) in
              let stops : way i (timed_at jobs left k) ≡ false = rw (first.waiting, before) refl in
              and_right (is_waiting jobs left t i) (list_all (way i) state)
              (list_all_at (way i) state k no_timed (omega (arith, length-timed jobs left each, first.listed)) (ap (way i) (timed_get jobs left each k no_timed first.listed) ∙ stops))
          | inr not_yet ↦ and_left (is_waiting jobs left t i) (list_all (way i) state) not_yet
        ]

    pub runs_here : AreApart order jobs → position (is_served order t state) state ≡ Some k
    runs_here apart =
        position_here (is_served order t state) state k no_timed (omega (arith, length-timed jobs left each, first.listed))
        (ap (is_served order t state) (timed_get jobs left each k no_timed first.listed) ∙ served_here)
        (λ i low. ap (is_served order t state) (timed_get jobs left each i no_timed (omega (arith, first.listed))) ∙ not_served_elsewhere apart i (omega (arith, first.listed)) (λ e. omega arith))

  pub none_runs : NoneWaits jobs left t (length jobs) → position (is_served order t state) state ≡ None
  none_runs none =
      position_nowhere (is_served order t state) state no_timed (λ i low.
      let within : i < length jobs = omega (arith, length-timed jobs left each) in
      ap (is_served order t state) (timed_get jobs left each i no_timed within) ∙ none_served none i within)

-- ---- there is a first one, or none waits

module _ (order : List ℕ) (jobs : List Job) (left : List ℕ) (t : ℕ) where
  abbrev pub Found : ℕ → Type 0
  Found n = NoneWaits jobs left t n ⊎ ((k : ℕ) × IsFirstOf order jobs left t n k)

  pub find_waiting : (n : ℕ) → Found n
  find_waiting zero = inl (λ i low. absurd (omega arith))
  find_waiting (suc n) = extend (is_waiting jobs left t n) refl (find_waiting n)
    where
      this : (i : ℕ) → i < suc n → n ≤ i → i ≡ n
      this i low high = omega arith

      stays : (k : ℕ) → IsFirstOf order jobs left t n k → (is_waiting jobs left t n ≡ true → goes_before order (job_at jobs n) (job_at jobs k) ≡ false) → IsFirstOf order jobs left t (suc n) k
      stays k f not_ahead = record {
        listed = omega (arith, f.listed);
        waiting = f.waiting;
        first = λ i low waits. elim (cases_lt i n) [
          | inl before ↦ f.first i before waits
          | inr here ↦ let same : i ≡ n = this i low here in rw same (not_ahead (rw same at waits))
        ];
      }

      leads : is_waiting jobs left t n ≡ true → ((i : ℕ) → i < n → is_waiting jobs left t i ≡ true → goes_before order (job_at jobs i) (job_at jobs n) ≡ false) → IsFirstOf order jobs left t (suc n) n
      leads waiting none_ahead = record {
        listed = omega arith;
        waiting = waiting;
        first = λ i low waits. elim (cases_lt i n) [
          | inl before ↦ none_ahead i before waits
          | inr here ↦ let same : i ≡ n = this i low here in rw same (goes_not_itself order (job_at jobs n))
        ];
      }

      extend : (b : Bool) → is_waiting jobs left t n ≡ b → Found n → Found (suc n)
      extend false rests (inl none) =
          inl (λ i low. elim (cases_lt i n) [ inl before ↦ none i before | inr here ↦ ap (is_waiting jobs left t) (this i low here) ∙ rests ])
      extend true waits (inl none) = inr (n, leads waits (λ i before w. absurd (both_ways (is_waiting jobs left t i) (none i before) w)))
      extend false rests (inr f) = inr (f.0, stays f.0 f.1 (λ waits. absurd (both_ways (is_waiting jobs left t n) rests waits)))
      extend true waits (inr f) =
          elim (cases_Bool (goes_before order (job_at jobs n) (job_at jobs f.0))) [
            | inl ahead ↦
                inr (
                  n,
                  leads waits (λ i before w.
                      false_from_ne_true (goes_before order (job_at jobs i) (job_at jobs n)) (λ goes.
                      both_ways (goes_before order (job_at jobs i) (job_at jobs f.0)) (f.1.first i before w) (goes_on order (job_at jobs i) (job_at jobs n) (job_at jobs f.0) goes ahead))),
                )
            | inr behind ↦ inr (f.0, stays f.0 f.1 (λ w. behind))
          ]

-- so what is answered for the first waiting job is the place of the served one
pub first_runs : (order : List ℕ) (jobs : List Job) → AreApart order jobs → (left : List ℕ) → length left ≡ length jobs → (t : ℕ) (first : Option ℕ) →
    IsFirstWaiting order jobs left t (length jobs) first → first ≡ position (is_served order t (timed_jobs jobs left)) (timed_jobs jobs left)
first_runs order jobs apart left each t None none = sym (none_runs order jobs left each t none)
first_runs order jobs apart left each t (Some k) first = sym (runs_here order jobs left each t k first apart)
