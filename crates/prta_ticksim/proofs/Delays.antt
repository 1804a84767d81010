-- What the delays compute: the first ticks after a time that serve a backlog and all that is released before they are over.
use Rattle.std.proofs.Common.{◌≡◌, ℕ, suc, ◌+◌, ◌-◌, ◌≤◌, ◌<◌, true, false, cond, nat_lt, nat_eq, List, [], ◌∷◌, refl, ap, ◌∙◌, arith, inl, inr}
use Rattle.std.specs.List.{AllByRecursion as Each}
use Rattle.std.proofs.lemmas.Bool.{cases_lt, cond-false, lt-ltb, le-ltb}
use Rattle.std.proofs.lemmas.Bool.Decides.{nat_tests}
use Rattle.prta_sheet.specs.Assignment.{Timed}
use Rattle.prta_jobs.specs.Backlog.{delayed}
use Rattle.prta_ticksim.proofs.Each.{Pairs, Each-weaker}
use Rattle.prta_ticksim.proofs.Sums.{sum_by-each, sum_by-plus}
use Rattle.prta_ticksim.proofs.TimeOf.{time_of, at, time_of-none, time_of-cons}
use Rattle.prta_ticksim.proofs.BacklogByTick.{ByRelease, any}

-- the ticks, and the time of the jobs released less than m after r
abbrev pub demand : ℕ → ℕ → List Timed → ℕ → ℕ
demand r ticks es m = ticks + time_of (λ job. nat_lt (job.release - r) m) es

demand-cons : (r ticks m : ℕ) (e : Timed) (es : List Timed) → demand r ticks (e ∷ es) m ≡ cond (nat_lt (e.job.release - r) m) e.time 0 + demand r ticks es m
demand-cons r ticks m e es = omega (arith, time_of-cons (λ job. nat_lt (job.release - r) m) e es)

pub demand_early : (r ticks m : ℕ) (es : List Timed) → Each (λ e. m ≤ e.job.release - r) es → demand r ticks es m ≡ ticks
demand_early r ticks m es late =
    omega (arith, time_of-none (λ job. nat_lt (job.release - r) m) es (Each-weaker _ _ (λ e l. cond-false (nat_lt (e.job.release - r) m) e.time 0 (le-ltb (e.job.release - r) m l)) es late))

-- the demand rises by what is released
pub demand_suc : (r ticks m : ℕ) (es : List Timed) → Each (λ e. r < e.job.release) es → demand r ticks es (suc m) ≡ demand r ticks es m + time_of (at any (r + m)) es
demand_suc r ticks m es after =
    omega (
      arith,
      sum_by-each (λ e. cond (nat_lt (e.job.release - r) (suc m)) e.time 0) (λ e. cond (nat_lt (e.job.release - r) m) e.time 0 + cond (nat_eq e.job.release (r + m)) e.time 0) es
          (Each-weaker (λ e. r < e.job.release) _ (λ e l. parts e.job.release e.time l) es after),
      sum_by-plus (λ e. cond (nat_lt (e.job.release - r) m) e.time 0) (λ e. cond (nat_eq e.job.release (r + m)) e.time 0) es,
    )
  where
    parts : (s c : ℕ) → r < s → cond (nat_lt (s - r) (suc m)) c 0 ≡ cond (nat_lt (s - r) m) c 0 + cond (nat_eq s (r + m)) c 0
    parts s c l = grind (arith, nat_tests)

-- at the end the demand is met, and at no time before
pub record IsDelayed (r ticks : ℕ) (es : List Timed) (end : ℕ) : Type 0 where
  pub rises : ticks ≤ end
  pub meets : demand r ticks es end ≡ end
  pub busy : (m : ℕ) → m < end → m < demand r ticks es m

delayed_stays : (r ticks : ℕ) (es : List Timed) → Each (λ e. ticks ≤ e.job.release - r) es → delayed r ticks es ≡ ticks
delayed_stays r ticks [] late = refl
delayed_stays r ticks (e ∷ es) late = let no_delay : nat_lt (e.job.release - r) ticks ≡ false = le-ltb (e.job.release - r) ticks late.0 in rw no_delay (delayed_stays r ticks es late.1)

pub delayed_is : (r ticks : ℕ) (es : List Timed) → Pairs ByRelease es → IsDelayed r ticks es (delayed r ticks es)
delayed_is r ticks [] by_release = record { rises = omega arith; meets = omega arith; busy = λ m l. omega arith }
delayed_is r ticks (e ∷ es) by_release = elim (cases_lt (e.job.release - r) ticks) [ inl delays ↦ with_delay delays (delayed_is r (ticks + e.time) es by_release.1) | inr late ↦ without late ]
  where
    without : ticks ≤ e.job.release - r → IsDelayed r ticks (e ∷ es) (delayed r ticks (e ∷ es))
    without late =
        let all : Each (λ e. ticks ≤ e.job.release - r) (e ∷ es) = (late, Each-weaker (ByRelease e) _ (λ x l. omega arith) es by_release.0) in
        rw (delayed_stays r ticks (e ∷ es) all) record { rises = omega arith; meets = demand_early r ticks ticks (e ∷ es) all; busy = λ m l. omega arith }

    with_delay : e.job.release - r < ticks → IsDelayed r (ticks + e.time) es (delayed r (ticks + e.time) es) → IsDelayed r ticks (e ∷ es) (delayed r ticks (e ∷ es))
    with_delay delays rest =
        let end : ℕ = delayed r (ticks + e.time) es in
        let counts : nat_lt (e.job.release - r) ticks ≡ true = lt-ltb (e.job.release - r) ticks delays in
        let more : (m : ℕ) → e.job.release - r < m → demand r ticks (e ∷ es) m ≡ demand r (ticks + e.time) es m =
        λ m l. demand-cons r ticks m e es ∙ ap (λ b. cond b e.time 0 + demand r ticks es m) (lt-ltb (e.job.release - r) m l) ∙ omega arith in
        rw counts record {
          rises = omega (arith, rest.rises);
          meets = more end (omega (arith, rest.rises)) ∙ rest.meets;
          busy = λ m l. elim (cases_lt (e.job.release - r) m) [ inl after ↦ omega (arith, more m after, rest.busy m l) | inr before ↦ omega arith ];
        }
