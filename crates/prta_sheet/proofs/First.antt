-- A job that goes before every other listed job.
use Rattle.std.proofs.Common.{◌≡◌, ℕ, zero, suc, ◌-◌, Bool, true, false, not, ◌&&◌, ◌||◌, cond, nat_le, nat_lt, nat_eq, if◌then◌else◌, List, [], ◌∷◌, ◌++◌, map, filter, sum_by, refl, ap, sym, ◌∙◌, subst, arith, ⊎_elim}
use Rattle.std.specs.List.{AllByRecursion as Each, list_all}
use Rattle.std.proofs.lemmas.List.{map-append}
use Rattle.std.proofs.lemmas.List.Elements.{filter-append}
use Rattle.std.proofs.lemmas.List.Sums.{sum_by-cons}
use Rattle.std.proofs.lemmas.Bool.{and_from, and_left, and_right, cases_eq, eq-eqb, ne_eqb}
use Rattle.std.proofs.lemmas.Bool.Decides.{nat_tests}
use Rattle.prta_sheet.specs.Job.{Job}
use Rattle.prta_sheet.specs.Assignment.{Timed}
use Rattle.prta_sheet.specs.Machine.{place, is_pending, goes_before, is_served, tick, after, is_job, remaining}
use Rattle.prta_sheet.specs.Laws.{ServedFirst}
use Rattle.prta_sheet.proofs.Each.{Each-append, Each-left, Each-right, Each-weaker, Each-map, list_all-each, filter_none}

-- ---- the order of two jobs

-- of two jobs at most one goes before the other
goes_one_way : (order : List ℕ) (a b : Job) → goes_before order a b ≡ true → goes_before order b a ≡ false
goes_one_way order a b h = one_way (place order a.task) (place order b.task) a.release b.release h
  where
    one_way : (p q r s : ℕ) → (nat_lt p q || (nat_eq p q && nat_lt r s)) ≡ true → (nat_lt q p || (nat_eq q p && nat_lt s r)) ≡ false
    one_way p q r s h = grind (arith, nat_tests)

-- no job goes before itself
goes_not_itself : (order : List ℕ) (a : Job) → goes_before order a a ≡ false
goes_not_itself order a = not_itself (place order a.task) a.release
  where
    not_itself : (p r : ℕ) → (nat_lt p p || (nat_eq p p && nat_lt r r)) ≡ false
    not_itself p r = grind (arith, nat_tests)

-- a job that another one goes before is not that other one
goes_apart : (order : List ℕ) (job : Job) (e : Timed) → goes_before order job e.job ≡ true → is_job job e ≡ false
goes_apart order job e h = ⊎_elim
    (λ (same : e.job.task ≡ job.task).
    and_right (nat_eq e.job.task job.task) (nat_eq e.job.release job.release)
    (releases (place order job.task) (place order e.job.task) job.release e.job.release (ap (place order) same) h))
    (λ (other : e.job.task ≡ job.task → ⊥). and_left (nat_eq e.job.task job.task) (nat_eq e.job.release job.release) (ne_eqb e.job.task job.task other))
    (cases_eq e.job.task job.task)
  where
    releases : (p q r s : ℕ) → q ≡ p → (nat_lt p q || (nat_eq p q && nat_lt r s)) ≡ true → nat_eq s r ≡ false
    releases p q r s e h = grind (arith, nat_tests)

-- ---- one tick

-- a list in which a job, with this time left to it, goes before every other job
record IsAhead (order : List ℕ) (job : Job) (time : ℕ) (state : List Timed) : Type 0 where
  first : List Timed
  last : List Timed
  split : state ≡ first ++ record { job = job; time = time } ∷ last
  ahead_of_first : Each (λ e. goes_before order job e.job ≡ true) first
  ahead_of_last : Each (λ e. goes_before order job e.job ≡ true) last

module _ (order : List ℕ) (job : Job) where
  -- the job goes before this one
  abbrev Behind : Timed → Type 0
  Behind e = goes_before order job e.job ≡ true

  -- what a tick makes of a listed job
  abbrev ticked : ℕ → List Timed → Timed → Timed
  ticked t state e = if is_served order t state e then record e { time = e.time - 1 } else e

  ticked_behind : (t : ℕ) (state : List Timed) (e : Timed) → Behind e → Behind (ticked t state e)
  ticked_behind t state e h = elim (is_served order t state e) as (λ b. Behind (if b then record e { time = e.time - 1 } else e)) [ true ↦ h | false ↦ h ]

  all_behind : (t : ℕ) (state es : List Timed) → Each Behind es → Each Behind (map (ticked t state) es)
  all_behind t state es h = Each-map Behind (ticked t state) es (Each-weaker Behind _ (ticked_behind t state) es h)

  module _ (time t : ℕ) (first last : List Timed) (of_first : Each Behind first) (of_last : Each Behind last) where
    abbrev own : Timed
    own = record { job = job; time = time }

    abbrev state : List Timed
    state = first ++ own ∷ last

    -- a listed job that isn't pending or doesn't go before the own one
    abbrev gives_way : Timed → Bool
    gives_way other = not (is_pending t other && goes_before order other.job job)

    gives_way_from : (e : Timed) → goes_before order e.job job ≡ false → gives_way e ≡ true
    gives_way_from e h = ap not (and_right (is_pending t e) (goes_before order e.job job) h)

    all_give_way : list_all gives_way state ≡ true
    all_give_way =
        let of_behind : (e : Timed) → Behind e → gives_way e ≡ true = λ e h. gives_way_from e (goes_one_way order job e.job h) in
        list_all-each gives_way state
        (Each-append (λ e. gives_way e ≡ true) first (own ∷ last) (Each-weaker Behind _ of_behind first of_first)
        (gives_way_from own (goes_not_itself order job), Each-weaker Behind _ of_behind last of_last))

    -- so the own job is served where it is pending
    own_ticked : ticked t state own ≡ record { job = job; time = time - cond (nat_le job.release t) 1 0 }
    own_ticked = rw all_give_way (chosen (is_pending t own && true) ∙ ap (λ c. record { job = job; time = c }) (taken job.release time))
      where
        chosen : (b : Bool) → ◌≡◌ {A = Timed} (cond b (record own { time = time - 1 }) own) (record { job = job; time = cond b (time - 1) time })
        chosen true = refl
        chosen false = refl

        taken : (r c : ℕ) → cond ((nat_le r t && nat_lt 0 c) && true) (c - 1) c ≡ c - cond (nat_le r t) 1 0
        taken r c = grind (arith, nat_tests)

    stays_ahead : IsAhead order job (time - cond (nat_le job.release t) 1 0) (tick order t state)
    stays_ahead = record {
      first = map (ticked t state) first;
      last = map (ticked t state) last;
      split = map-append (ticked t state) first (own ∷ last) ∙ ap (λ e. map (ticked t state) first ++ e ∷ map (ticked t state) last) own_ticked;
      ahead_of_first = all_behind t state first of_first;
      ahead_of_last = all_behind t state last of_last;
    }

  -- ---- n ticks

  -- from its release on the job loses 1 a tick, and the others stay behind it
  ahead_after : (time : ℕ) (start : List Timed) → IsAhead order job time start → (n : ℕ) → IsAhead order job (time - (n - job.release)) (after order start n)
  ahead_after time start h zero = let none : time ≡ time - (0 - job.release) = omega arith in subst (λ c. IsAhead order job c start) none h
  ahead_after time start h (suc n) =
      let left : ℕ = time - (n - job.release) in
      let now : IsAhead order job left (after order start n) = ahead_after time start h n in
      let next : IsAhead order job (left - cond (nat_le job.release n) 1 0) (tick order n (after order start n)) =
      subst (λ s. IsAhead order job (left - cond (nat_le job.release n) 1 0) (tick order n s)) (sym now.split) (stays_ahead left n now.first now.last now.ahead_of_first now.ahead_of_last) in
      subst (λ c. IsAhead order job c (after order start (suc n))) (one_less time job.release) next
    where
      one_less : (c r : ℕ) → (c - (n - r)) - cond (nat_le r n) 1 0 ≡ c - (suc n - r)
      one_less c r = grind (arith, nat_tests)

  -- no other listed job is the same one, so the time that remains to the job is its own
  remaining_ahead : (time : ℕ) (state : List Timed) → IsAhead order job time state → remaining job state ≡ time
  remaining_ahead time state h =
      let own : Timed = record { job = job; time = time } in
      let none : (es : List Timed) → Each Behind es → filter (is_job job) es ≡ [] = λ es b. filter_none (is_job job) es (Each-weaker Behind _ (goes_apart order job) es b) in
      let is_own : is_job job own ≡ true = and_from (nat_eq job.task job.task) (nat_eq job.release job.release) (eq-eqb job.task job.task refl) (eq-eqb job.release job.release refl) in
      let kept : filter (is_job job) state ≡ own ∷ [] =
      ap (filter (is_job job)) h.split
      ∙ filter-append (is_job job) h.first (own ∷ h.last)
      ∙ ap (λ xs. xs ++ filter (is_job job) (own ∷ h.last)) (none h.first h.ahead_of_first)
      ∙ ap (λ b. cond b (own ∷ filter (is_job job) h.last) (filter (is_job job) h.last)) is_own
      ∙ ap (λ xs. own ∷ xs) (none h.last h.ahead_of_last) in
      ap (sum_by (λ e. e.time)) kept ∙ omega (arith, sum_by-cons (λ (e : Timed). e.time) own [])

pub served_first : ServedFirst
served_first order first last own h n =
    let Behind : Timed → Type 0 = λ e. goes_before order own.job e.job ≡ true in
    let start : IsAhead order own.job own.time (first ++ own ∷ last) =
    record { first = first; last = last; split = refl; ahead_of_first = Each-left Behind first last h; ahead_of_last = Each-right Behind first last h } in
    remaining_ahead order own.job _ _ (ahead_after order own.job own.time (first ++ own ∷ last) start n)
