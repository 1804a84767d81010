-- Jobs on whose times a number doesn't depend multiply the weights.
use Rattle.std.proofs.Common.{◌≡◌, ℕ, ◌*◌, Bool, true, false, not, cond, List, [], ◌∷◌, filter, sum_by, ap, sym, ◌∙◌, arith}
use Rattle.prta_mass.specs.Table.{Table}
use Rattle.prta_sheet.specs.Job.{Job}
use Rattle.prta_sheet.specs.Assignment.{Timed, total_of}
use Rattle.prta_sheet.specs.Weights.{weigh}
use Rattle.prta_sheet.proofs.Sums.{sum_by-same, sum_by-times}
use Rattle.prta_sheet.proofs.Weighing.{weigh_one}
use Rattle.prta_response.proofs.Weighing.{timed}

module _ (table : Job → Table) (p : Job → Bool) where
  abbrev pub outside : List Job → ℕ
  outside jobs = total_of table (filter (λ job. not (p job)) jobs)

  pub weigh-filter : (jobs : List Job) (f : List Timed → ℕ) → weigh table jobs (λ a. f (filter (λ e. p e.job) a)) ≡ outside jobs * weigh table (filter p jobs) f
  weigh-filter [] f = omega arith
  weigh-filter (job ∷ jobs) f =
      let kept : List Timed → List Timed = λ a. filter (λ e. p e.job) a in
      let out : ℕ = outside jobs in
      elim (p job) as (λ b.
      sum_by (λ pair. pair.1 * weigh table jobs (λ rest. f (cond b (timed job pair.0 ∷ kept rest) (kept rest)))) (table job)
      ≡ total_of table (cond (not b) (job ∷ filter (λ job. not (p job)) jobs) (filter (λ job. not (p job)) jobs)) * weigh table (cond b (job ∷ filter p jobs) (filter p jobs)) f) [
        | true ↦
            sum_by-same _ _ (λ pair. ap (λ s. pair.1 * s) (weigh-filter jobs (λ rest. f (timed job pair.0 ∷ rest))) ∙ omega arith) (table job)
            ∙ sum_by-times out (λ pair. pair.1 * weigh table (filter p jobs) (λ rest. f (timed job pair.0 ∷ rest))) (table job)
        | false ↦
            sum_by-same _ _ (λ pair. ap (λ s. pair.1 * s) (weigh-filter jobs f) ∙ omega arith) (table job)
            ∙ sum_by-times (out * weigh table (filter p jobs) f) (λ pair. pair.1) (table job) ∙ omega arith
      ]

  pub total-filter : (jobs : List Job) → total_of table jobs ≡ outside jobs * total_of table (filter p jobs)
  total-filter jobs = sym (weigh_one table jobs) ∙ weigh-filter jobs (λ a. 1) ∙ ap (λ s. outside jobs * s) (weigh_one table (filter p jobs))
