-- What ticks make of jobs with their times: the jobs stay, and no time rises.
use Rattle.std.proofs.Common.{◌≡◌, ℕ, zero, suc, ◌+◌, ◌-◌, ◌≤◌, true, false, cond, if◌then◌else◌, List, [], ◌∷◌, map, refl, ap₂, ◌∙◌, arith, zero-add, suc-add}
use Rattle.std.proofs.lemmas.Bool.{cond_both}
use Rattle.std.proofs.lemmas.List.Sums.{sum_by-le-sum_by}
use Rattle.prta_sheet.specs.Job.{Job}
use Rattle.prta_sheet.specs.Assignment.{Timed}
use Rattle.prta_sheet.specs.Machine.{is_served, tick, after, is_job, remaining}
use Rattle.prta_sheet.specs.Weights.{jobs_of}
use Rattle.prta_ticksim.proofs.Sums.{sum_by-filter, sum_by-map}

-- what a tick makes of a listed job
abbrev pub ticked : List ℕ → ℕ → List Timed → Timed → Timed
ticked order t state e = if is_served order t state e then record e { time = e.time - 1 } else e

-- a change of the times alone keeps the jobs
jobs_kept : (f : Timed → Timed) → ((e : Timed) → (f e).job ≡ e.job) → (state : List Timed) → jobs_of (map f state) ≡ jobs_of state
jobs_kept f same [] = refl
jobs_kept f same (e ∷ state) = ap₂ (λ job rest. job ∷ rest) (same e) (jobs_kept f same state)

module _ (order : List ℕ) where
  pub jobs_after : (start : List Timed) (n : ℕ) → jobs_of (after order start n) ≡ jobs_of start
  jobs_after start zero = refl
  jobs_after start (suc n) =
      let state : List Timed = after order start n in
      jobs_kept (ticked order n state) (λ e. cond_both (is_served order n state e) (record e { time = e.time - 1 }) e (λ (b : Timed). b.job ≡ e.job) (λ s. refl) (λ s. refl)) state
      ∙ jobs_after start n

  module _ (job : Job) where
    -- no tick adds to the time that remains
    remaining_tick : (t : ℕ) (state : List Timed) → remaining job (tick order t state) ≤ remaining job state
    remaining_tick t state =
        let f : Timed → ℕ = λ e. cond (is_job job e) e.time 0 in
        let each : (e : Timed) → f (ticked order t state e) ≤ f e = λ e.
        elim (is_served order t state e) as (λ b. f (if b then record e { time = e.time - 1 } else e) ≤ f e) [
          | true ↦ elim (is_job job e) as (λ b. cond b (e.time - 1) 0 ≤ cond b e.time 0) [ true ↦ omega arith | false ↦ omega arith ]
          | false ↦ omega arith
        ] in
        omega (
          arith,
          sum_by-filter (is_job job) (λ e. e.time) (tick order t state),
          sum_by-filter (is_job job) (λ e. e.time) state,
          sum_by-map f (ticked order t state) state,
          sum_by-le-sum_by (λ e. f (ticked order t state e)) f state each,
        )

    pub remaining_later : (start : List Timed) (n m : ℕ) → remaining job (after order start (m + n)) ≤ remaining job (after order start n)
    remaining_later start n zero = rw zero-add (omega arith)
    remaining_later start n (suc m) = rw suc-add (omega (arith, remaining_tick (m + n) (after order start (m + n)), remaining_later start n m))
