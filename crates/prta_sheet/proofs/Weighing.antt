-- Sums over assignments.
use Rattle.std.proofs.Common.{◌≡◌, ℕ, ◌*◌, Bool, List, [], ◌∷◌, ◌++◌, map, filter, sum_by, refl, ap, ◌∙◌, arith}
use Rattle.prta_mass.specs.Table.{Table, total}
use Rattle.prta_sheet.specs.Job.{Job}
use Rattle.prta_sheet.specs.Assignment.{Timed, Choice, assignments, weight_of, times_of, total_of}
use Rattle.prta_sheet.specs.Weights.{one_if, weigh, jobs_of}
use Rattle.prta_sheet.specs.Laws.{SumsOverAssignments, IndependentJob}
use Rattle.prta_sheet.proofs.Sums.{sum_by-same, sum_by-times, sum_by-map, sum_by-flat_map, sum_by-filter}

module _ (table : Job → Table) where
  -- the sum over the list of all assignments is the sum by recursion
  pub listed : (jobs : List Job) (f : List Timed → ℕ) → sum_by (λ a. weight_of a * f (times_of a)) (assignments table jobs) ≡ weigh table jobs f
  listed [] f = omega arith
  listed (job ∷ jobs) f =
      let chosen : ℕ × ℕ → Choice = λ pair. record { job = job; time = pair.0; weight = pair.1 } in
      let value : List Choice → ℕ = λ a. weight_of a * f (times_of a) in
      sum_by-flat_map value (λ pair. map (λ rest. chosen pair ∷ rest) (assignments table jobs)) (table job)
      ∙ sum_by-same _ _ (λ pair.
      sum_by-map value (λ rest. chosen pair ∷ rest) (assignments table jobs)
      ∙ sum_by-same _ _ (λ rest. omega arith) (assignments table jobs)
      ∙ sum_by-times pair.1 (λ rest. weight_of rest * f (record { job = job; time = pair.0 } ∷ times_of rest)) (assignments table jobs)
      ∙ ap (λ s. pair.1 * s) (listed jobs (λ rest. f (record { job = job; time = pair.0 } ∷ rest)))) (table job)

  -- the weights of the assignments whose times pass a test
  pub listed_passing : (jobs : List Job) (p : List Timed → Bool) → sum_by weight_of (filter (λ a. p (times_of a)) (assignments table jobs)) ≡ weigh table jobs (λ a. one_if (p a))
  listed_passing jobs p = sum_by-filter (λ a. p (times_of a)) weight_of (assignments table jobs) ∙ listed jobs (λ a. one_if (p a))

  -- two numbers that agree where the jobs are these have one sum
  pub weigh-same_on : (jobs : List Job) (f g : List Timed → ℕ) → ((a : List Timed) → jobs_of a ≡ jobs → f a ≡ g a) → weigh table jobs f ≡ weigh table jobs g
  weigh-same_on [] f g e = e [] refl
  weigh-same_on (job ∷ jobs) f g e =
      sum_by-same _ _ (λ pair. ap (λ s. pair.1 * s) (weigh-same_on jobs _ _ (λ rest h. e (record { job = job; time = pair.0 } ∷ rest) (ap (λ js. job ∷ js) h)))) (table job)

  -- a job on whose time the number doesn't depend
  pub weigh-independent : (before : List Job) (job : Job) (after : List Job) (f g : List Timed → ℕ) →
      ((a : List Timed) (time : ℕ) (b : List Timed) → jobs_of a ≡ before → jobs_of b ≡ after → f (a ++ record { job = job; time = time } ∷ b) ≡ g (a ++ b)) →
      weigh table (before ++ job ∷ after) f ≡ total (table job) * weigh table (before ++ after) g
  weigh-independent [] job after f g free =
      sum_by-same _ _ (λ pair. ap (λ s. pair.1 * s) (weigh-same_on after _ g (λ b h. free [] pair.0 b refl h)) ∙ omega arith) (table job)
      ∙ sum_by-times (weigh table after g) (λ pair. pair.1) (table job) ∙ omega arith
  weigh-independent (first ∷ before) job after f g free =
      sum_by-same _ _ (λ pair.
      ap (λ s. pair.1 * s)
      (weigh-independent before job after (λ rest. f (record { job = first; time = pair.0 } ∷ rest)) (λ rest. g (record { job = first; time = pair.0 } ∷ rest))
      (λ a time b of_a of_b. free (record { job = first; time = pair.0 } ∷ a) time b (ap (λ js. first ∷ js) of_a) of_b))
      ∙ omega arith) (table first)
      ∙ sum_by-times (total (table job)) (λ pair. pair.1 * weigh table (before ++ after) (λ rest. g (record { job = first; time = pair.0 } ∷ rest))) (table first)

  pub weigh-times : (k : ℕ) (jobs : List Job) (f : List Timed → ℕ) → weigh table jobs (λ a. k * f a) ≡ k * weigh table jobs f
  weigh-times k [] f = refl
  weigh-times k (job ∷ jobs) f =
      sum_by-same _ _ (λ pair. ap (λ s. pair.1 * s) (weigh-times k jobs _) ∙ omega arith) (table job)
      ∙ sum_by-times k (λ pair. pair.1 * weigh table jobs (λ rest. f (record { job = job; time = pair.0 } ∷ rest))) (table job)

  -- the weights of all assignments
  pub weigh_one : (jobs : List Job) → weigh table jobs (λ a. 1) ≡ total_of table jobs
  weigh_one [] = refl
  weigh_one (job ∷ jobs) =
      sum_by-same _ _ (λ pair. ap (λ s. pair.1 * s) (weigh_one jobs) ∙ omega arith) (table job)
      ∙ sum_by-times (total_of table jobs) (λ pair. pair.1) (table job) ∙ omega arith

  -- so a number that depends on none of the jobs multiplies their weights
  pub weigh_constant : (k : ℕ) (jobs : List Job) → weigh table jobs (λ a. k) ≡ k * total_of table jobs
  weigh_constant k [] = omega arith
  weigh_constant k (job ∷ jobs) =
      weigh-independent [] job jobs (λ a. k) (λ a. k) (λ a time b of_a of_b. refl) ∙ ap (λ s. total (table job) * s) (weigh_constant k jobs) ∙ omega arith

pub sums : SumsOverAssignments
sums = record { passing = λ table jobs p. listed_passing table jobs p; all = λ table jobs. weigh_one table jobs }

pub independent_job : IndependentJob
independent_job = weigh-independent
