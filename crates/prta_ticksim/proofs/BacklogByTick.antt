-- A backlog that goes tick by tick, and the one that goes from release to release.
use Rattle.std.proofs.Common.{◌≡◌, ℕ, zero, suc, ◌+◌, ◌-◌, ◌≤◌, ◌<◌, Bool, true, false, ◌&&◌, cond, nat_le, nat_eq, List, [], ◌∷◌, ◌++◌, filter, refl, ap, sym, ◌∙◌, arith, inl, inr}
use Rattle.std.specs.List.{AllByRecursion as Each}
use Rattle.std.proofs.lemmas.Bool.{cases_lt, cases_eq, le-leb, lt-leb, eq-eqb, ne_eqb, eqb-true, leb-true}
use Rattle.std.proofs.lemmas.Bool.Decides.{nat_tests}
use Rattle.std.proofs.lemmas.List.Elements.{filter_agree}
use Rattle.prta_sheet.specs.Job.{Job}
use Rattle.prta_sheet.specs.Assignment.{Timed}
use Rattle.prta_jobs.specs.Backlog.{backlog_at, released_until}
use Rattle.prta_ticksim.proofs.Each.{Pairs, Each-weaker, Each_passes, filter_none}
use Rattle.prta_ticksim.proofs.TimeOf.{time_of, at, time_of-same, time_of-cons, time_of-filter}

-- the backlog right after the releases at n, where `come` gives the time of what is released at each time
abbrev pub by_tick : (ℕ → ℕ) → ℕ → ℕ
by_tick come zero = come zero
by_tick come (suc n) = (by_tick come n - 1) + come (suc n)

pub by_tick-same : (f g : ℕ → ℕ) (t : ℕ) → ((n : ℕ) → n ≤ t → f n ≡ g n) → by_tick f t ≡ by_tick g t
by_tick-same f g zero same = same zero (omega arith)
by_tick-same f g (suc t) same = omega (arith, by_tick-same f g t (λ n early. same n (omega arith)), same (suc t) (omega arith))

-- every job passes
abbrev pub any : Job → Bool
any job = true

-- jobs that are all released at the end
rises_at_end : (backlog since u : ℕ) (ys : List Timed) → Each (λ e. e.job.release ≡ u) ys → backlog_at backlog since ys u ≡ (backlog - (u - since)) + time_of any ys
rises_at_end backlog since u [] here = omega arith
rises_at_end backlog since u (e ∷ ys) here = rises_at_end ((backlog - (e.job.release - since)) + e.time) e.job.release u ys here.1 ∙ omega (arith, time_of-cons any e ys, here.0)

backlog_at-append : (backlog since u : ℕ) (xs ys : List Timed) → Each (λ e. e.job.release ≡ u) ys → backlog_at backlog since (xs ++ ys) u ≡ backlog_at backlog since xs u + time_of any ys
backlog_at-append backlog since u [] ys here = rises_at_end backlog since u ys here
backlog_at-append backlog since u (e ∷ xs) ys here = backlog_at-append ((backlog - (e.job.release - since)) + e.time) e.job.release u xs ys here

-- one more tick
backlog_at-suc : (backlog since t : ℕ) (xs : List Timed) → since ≤ t → Each (λ e. e.job.release ≤ t) xs → backlog_at backlog since xs (suc t) ≡ backlog_at backlog since xs t - 1
backlog_at-suc backlog since t [] reached early = omega arith
backlog_at-suc backlog since t (e ∷ xs) reached early = backlog_at-suc ((backlog - (e.job.release - since)) + e.time) e.job.release t xs early.0 early.1

abbrev pub ByRelease : Timed → Timed → Type 0
ByRelease a b = a.job.release ≤ b.job.release

abbrev released_then : ℕ → List Timed → List Timed
released_then t es = filter (λ e. nat_eq e.job.release t) es

-- of a list by release, what is released at the next time stands last
released_until-suc : (t : ℕ) (es : List Timed) → Pairs ByRelease es → released_until (suc t) es ≡ released_until t es ++ released_then (suc t) es
released_until-suc t [] by_release = refl
released_until-suc t (e ∷ es) by_release = elim (cases_lt e.job.release (suc t)) [ inl early ↦ in_time early (released_until-suc t es by_release.1) | inr late ↦ too_late late (released_until-suc t es by_release.1) ]
  where
    in_time : e.job.release < suc t → released_until (suc t) es ≡ released_until t es ++ released_then (suc t) es → released_until (suc t) (e ∷ es) ≡ released_until t (e ∷ es) ++ released_then (suc t) (e ∷ es)
    in_time early rest =
        let next : nat_le e.job.release (suc t) ≡ true = le-leb e.job.release (suc t) (omega arith) in
        let now : nat_le e.job.release t ≡ true = le-leb e.job.release t (omega arith) in
        let then : nat_eq e.job.release (suc t) ≡ false = ne_eqb e.job.release (suc t) (omega arith) in
        rw (next, now, then) (ap (λ xs. e ∷ xs) rest)

    too_late : suc t ≤ e.job.release → released_until (suc t) es ≡ released_until t es ++ released_then (suc t) es → released_until (suc t) (e ∷ es) ≡ released_until t (e ∷ es) ++ released_then (suc t) (e ∷ es)
    too_late late rest =
        let now : nat_le e.job.release t ≡ false = lt-leb e.job.release t (omega arith) in
        let none : released_until t es ≡ [] = filter_none (λ x. nat_le x.job.release t) es (Each-weaker (ByRelease e) _ (λ x l. lt-leb x.job.release t (omega arith)) es by_release.0) in
        elim (cases_eq e.job.release (suc t)) [
          | inl same ↦
              let next : nat_le e.job.release (suc t) ≡ true = le-leb e.job.release (suc t) (omega arith) in
              let then : nat_eq e.job.release (suc t) ≡ true = eq-eqb e.job.release (suc t) same in
              rw (next, now, then) (rw none (ap (λ xs. e ∷ xs) (rw none at rest)))
          | inr other ↦
              let next : nat_le e.job.release (suc t) ≡ false = lt-leb e.job.release (suc t) (omega arith) in
              let then : nat_eq e.job.release (suc t) ≡ false = ne_eqb e.job.release (suc t) other in
              rw (next, now, then) rest
        ]

time_then : (t : ℕ) (es : List Timed) → time_of any (released_then t es) ≡ time_of (at any t) es
time_then t es = time_of-filter any (λ job. nat_eq job.release t) es ∙ time_of-same _ _ (λ job c. same (nat_eq job.release t) c) es
  where
    same : (b : Bool) (c : ℕ) → cond (b && true) c 0 ≡ cond b c 0
    same true c = refl
    same false c = refl

pub by_tick_is_by_release : (t : ℕ) (es : List Timed) → Pairs ByRelease es → by_tick (λ n. time_of (at any n) es) t ≡ backlog_at 0 0 (released_until t es) t
by_tick_is_by_release zero es by_release =
    let at_zero : released_until zero es ≡ released_then zero es = filter_agree _ _ (λ e. same e.job.release) es in
    rw at_zero (sym (rises_at_end 0 0 0 (released_then zero es) (Each_passes _ _ (λ e passes. eqb-true e.job.release 0 passes) es) ∙ omega (arith, time_then 0 es)))
  where
    same : (r : ℕ) → nat_le r zero ≡ nat_eq r zero
    same r = grind (arith, nat_tests)
by_tick_is_by_release (suc t) es by_release =
    let early : Each (λ e. e.job.release ≤ t) (released_until t es) = Each_passes _ _ (λ e passes. leb-true e.job.release t passes) es in
    let then : Each (λ e. e.job.release ≡ suc t) (released_then (suc t) es) = Each_passes _ _ (λ e passes. eqb-true e.job.release (suc t) passes) es in
    rw (released_until-suc t es by_release)
    (omega (
      arith,
      by_tick_is_by_release t es by_release,
      backlog_at-append 0 0 (suc t) (released_until t es) (released_then (suc t) es) then,
      backlog_at-suc 0 0 t (released_until t es) (omega arith) early,
      time_then (suc t) es,
    ))
