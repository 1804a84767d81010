-- A sum over assignments that sees only the time of some jobs: their order is free, and the other jobs multiply it.
use Rattle.std.proofs.Common.{◌≡◌, ℕ, ◌+◌, ◌*◌, Bool, true, false, ◌||◌, cond, List, [], ◌∷◌, ◌++◌, filter, sum_by, refl, ap, sym, ◌∙◌, arith}
use Rattle.std.proofs.lemmas.Bool.{or_from, both_ways}
use Rattle.std.proofs.lemmas.List.Sums.{sum_by-append}
use Rattle.prta_mass.specs.Table.{Table, total}
use Rattle.prta_sheet.specs.Job.{Job}
use Rattle.prta_sheet.specs.Assignment.{Timed}
use Rattle.prta_sheet.specs.Weights.{weigh, jobs_of}
use Rattle.prta_sheet.proofs.Sums.{sum_by-same, sum_by-times}
use Rattle.prta_sheet.proofs.Weighing.{weigh-same_on, weigh-independent, weigh-times}
use Rattle.prta_ticksim.proofs.TimeOf.{time_of, time_of-cons}
use Rattle.prta_response.proofs.Weighing.{timed, sums_swap, weigh-append}

module _ (table : Job → Table) (counts : Job → Bool) where
  -- the time that a job counts for
  abbrev counted : Job → ℕ → ℕ
  counted job c = cond (counts job) c 0

  abbrev sum_of : List Job → (ℕ → ℕ) → ℕ
  sum_of jobs g = weigh table jobs (λ x. g (time_of counts x))

  -- the first job's time apart
  sum_first : (job : Job) (jobs : List Job) (g : ℕ → ℕ) → sum_of (job ∷ jobs) g ≡ sum_by (λ pair. pair.1 * sum_of jobs (λ n. g (counted job pair.0 + n))) (table job)
  sum_first job jobs g =
      sum_by-same _ _ (λ pair. ap (λ s. pair.1 * s) (weigh-same_on table jobs _ _ (λ x h. ap g (time_of-cons counts (timed job pair.0) x)))) (table job)

  -- a job of no account
  sum_without : (job : Job) (jobs : List Job) (g : ℕ → ℕ) → counts job ≡ false → sum_of (job ∷ jobs) g ≡ total (table job) * sum_of jobs g
  sum_without job jobs g idle =
      let time : Timed → ℕ = λ e. counted e.job e.time in
      let none : (c : ℕ) → counted job c ≡ 0 = λ c. ap (λ b. cond b c 0) idle in
      weigh-independent table [] job jobs (λ x. g (time_of counts x)) (λ x. g (time_of counts x))
      (λ a c b of_a of_b. ap g (omega (arith, sum_by-append time a (timed job c ∷ b), sum_by-append time a b, time_of-cons counts (timed job c) b, none c)))

  -- a job stands before others or behind them
  moved : (job : Job) (more rest : List Job) (g : ℕ → ℕ) → sum_of (job ∷ (more ++ rest)) g ≡ sum_of (more ++ job ∷ rest) g
  moved job [] rest g = refl
  moved job (first ∷ more) rest g =
      let u : ℕ → ℕ = counted first in
      let both : (b c : ℕ) → ℕ = λ b c. sum_of (more ++ rest) (λ n. g (counted job b + (u c + n))) in
      sum_first job (first ∷ (more ++ rest)) g
      ∙ sum_by-same _ _ (λ pair. ap (λ s. pair.1 * s) (sum_first first (more ++ rest) (λ n. g (counted job pair.0 + n)))) (table job)
      ∙ sums_swap (table job) (table first) both
      ∙ sum_by-same _ _ (λ pair. ap (λ s. pair.1 * s)
      (sum_by-same _ _ (λ own. ap (λ s. own.1 * s) (weigh-same_on table (more ++ rest) _ _ (λ x h. ap g (omega arith)))) (table job)
      ∙ sym (sum_first job (more ++ rest) (λ n. g (u pair.0 + n)))
      ∙ moved job more rest (λ n. g (u pair.0 + n)))) (table first)
      ∙ sym (sum_first first (more ++ job ∷ rest) g)

module _ (table : Job → Table) (h o : Job → Bool) (apart : (job : Job) → h job ≡ true → o job ≡ false) where
  abbrev either : Job → Bool
  either job = o job || h job

  -- a sum over some jobs is one over those of two kinds, one kind after the other, multiplied
  abbrev pub Regroups : List Job → List Job → Type 0
  Regroups jobs kinds = (out : ℕ) × ((g : ℕ → ℕ) → sum_of table either jobs g ≡ out * sum_of table either kinds g)

  -- one more job in front, of one of the kinds or of neither
  with_job : (job : Job) (jobs kinds : List Job) → Regroups jobs kinds → Regroups (job ∷ jobs) (job ∷ kinds)
  with_job job jobs kinds rest = (
    rest.0,
    λ g.
        let left : ℕ × ℕ → ℕ = λ pair. sum_of table either kinds (λ n. g (counted table either job pair.0 + n)) in
        sum_first table either job jobs g
        ∙ sum_by-same _ _ (λ pair. ap (λ s. pair.1 * s) (rest.1 (λ n. g (counted table either job pair.0 + n))) ∙ omega arith) (table job)
        ∙ sum_by-times rest.0 (λ pair. pair.1 * left pair) (table job)
        ∙ ap (λ s. rest.0 * s) (sym (sum_first table either job kinds g)),
  )

  without_job : (job : Job) (jobs kinds : List Job) → either job ≡ false → Regroups jobs kinds → Regroups (job ∷ jobs) kinds
  without_job job jobs kinds neither rest = (total (table job) * rest.0, λ g. sum_without table either job jobs g neither ∙ ap (λ s. total (table job) * s) (rest.1 g) ∙ omega arith)

  pub regroup : (jobs : List Job) → Regroups jobs (filter h jobs ++ filter o jobs)
  regroup [] = (1, λ g. omega arith)
  regroup (job ∷ jobs) =
      let kinds : List Job = filter h jobs ++ filter o jobs in
      let rest : Regroups jobs kinds = regroup jobs in
      let more : Regroups (job ∷ jobs) (job ∷ kinds) = with_job job jobs kinds rest in
      let behind : Regroups (job ∷ jobs) (filter h jobs ++ job ∷ filter o jobs) = (more.0, λ g. more.1 g ∙ ap (λ s. more.0 * s) (moved table either job (filter h jobs) (filter o jobs) g)) in
      by_flags (h job) (o job) refl refl more behind (λ a b. without_job job jobs kinds (or_from (o job) (h job) b a) rest)
    where
      by_flags : (a b : Bool) → h job ≡ a → o job ≡ b → Regroups (job ∷ jobs) (job ∷ (filter h jobs ++ filter o jobs)) → Regroups (job ∷ jobs) (filter h jobs ++ job ∷ filter o jobs) →
          (h job ≡ false → o job ≡ false → Regroups (job ∷ jobs) (filter h jobs ++ filter o jobs)) →
          Regroups (job ∷ jobs) (cond a (job ∷ filter h jobs) (filter h jobs) ++ cond b (job ∷ filter o jobs) (filter o jobs))
      by_flags true true a b front behind without = absurd (both_ways (o job) (apart job a) b)
      by_flags true false a b front behind without = front
      by_flags false true a b front behind without = behind
      by_flags false false a b front behind without = without a b

module _ (table : Job → Table) (either : Job → Bool) (jobs kinds : List Job) (out : ℕ) (regroups : (g : ℕ → ℕ) → sum_of table either jobs g ≡ out * sum_of table either kinds g) where
  -- behind other jobs, for a number that sees only the time of those that count
  pub regrouped_sum : (before : List Job) (f : List Timed → ℕ) (g : List Timed → ℕ → ℕ) →
      ((a y : List Timed) → jobs_of y ≡ jobs → f (a ++ y) ≡ g a (time_of either y)) → ((a y : List Timed) → jobs_of y ≡ kinds → f (a ++ y) ≡ g a (time_of either y)) →
      weigh table (before ++ jobs) f ≡ out * weigh table (before ++ kinds) f
  regrouped_sum before f g of_jobs of_kinds =
      weigh-append table before jobs f
      ∙ weigh-same_on table before _ _ (λ a of_a. weigh-same_on table jobs _ _ (of_jobs a) ∙ regroups (g a) ∙ ap (λ s. out * s) (sym (weigh-same_on table kinds _ _ (of_kinds a))))
      ∙ weigh-times table out before (λ a. weigh table kinds (λ y. f (a ++ y)))
      ∙ ap (λ s. out * s) (sym (weigh-append table before kinds f))
