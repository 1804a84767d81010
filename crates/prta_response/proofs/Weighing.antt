-- Sums over assignments: larger terms, sums of two terms, and one more job.
use Rattle.std.proofs.Common.{◌≡◌, ℕ, ◌+◌, ◌*◌, ◌≤◌, List, [], ◌∷◌, ◌++◌, sum_by, refl, ap, sym, ◌∙◌, arith, append-nil, mul-le-mul_left}
use Rattle.std.specs.List.{AllByRecursion as Each}
use Rattle.std.proofs.lemmas.List.Sums.{sum_by-cons, sum_by-le-sum_by}
use Rattle.prta_mass.specs.Table.{Table, total}
use Rattle.prta_sheet.specs.Job.{Job}
use Rattle.prta_sheet.specs.Assignment.{Timed, total_of}
use Rattle.prta_sheet.specs.Weights.{weigh, jobs_of}
use Rattle.prta_sheet.proofs.Each.{Each-weaker}
use Rattle.prta_sheet.proofs.Sums.{sum_by-same, sum_by-times}
use Rattle.prta_sheet.proofs.Weighing.{weigh-independent, weigh_one}
use Rattle.prta_ticksim.proofs.Sums.{sum_by-plus, sum_by-each}

abbrev pub timed : Job → ℕ → Timed
timed job c = record { job = job; time = c }

-- weighted sums over two tables change places
pub sums_swap : (first second : Table) (h : ℕ → ℕ → ℕ) → sum_by (λ p. p.1 * sum_by (λ q. q.1 * h p.0 q.0) second) first ≡ sum_by (λ q. q.1 * sum_by (λ p. p.1 * h p.0 q.0) first) second
sums_swap [] second h = sym (sum_by-same (λ q. q.1 * 0) (λ q. 0 * q.1) (λ q. omega arith) second ∙ sum_by-times 0 (λ (q : ℕ × ℕ). q.1) second ∙ omega arith)
sums_swap (p ∷ first) second h =
    let rest : ℕ × ℕ → ℕ = λ q. sum_by (λ p. p.1 * h p.0 q.0) first in
    sum_by-cons (λ (p : ℕ × ℕ). p.1 * sum_by (λ q. q.1 * h p.0 q.0) second) p first
    ∙ ap (λ s. p.1 * sum_by (λ q. q.1 * h p.0 q.0) second + s) (sums_swap first second h)
    ∙ ap (λ s. s + sum_by (λ q. q.1 * rest q) second) (sym (sum_by-times p.1 (λ (q : ℕ × ℕ). q.1 * h p.0 q.0) second))
    ∙ sym (sum_by-plus (λ (q : ℕ × ℕ). p.1 * (q.1 * h p.0 q.0)) (λ q. q.1 * rest q) second)
    ∙ sum_by-same _ _ (λ q. omega arith ∙ ap (λ s. q.1 * s) (sym (sum_by-cons (λ (p : ℕ × ℕ). p.1 * h p.0 q.0) p first))) second

module _ (table : Job → Table) where
  pub weigh-le : (jobs : List Job) (f g : List Timed → ℕ) → ((a : List Timed) → f a ≤ g a) → weigh table jobs f ≤ weigh table jobs g
  weigh-le [] f g e = e []
  weigh-le (job ∷ jobs) f g e = sum_by-le-sum_by _ _ (table job) (λ pair. mul-le-mul_left pair.1 (weigh-le jobs _ _ (λ rest. e (timed job pair.0 ∷ rest))))

  pub weigh-plus : (jobs : List Job) (f g : List Timed → ℕ) → weigh table jobs (λ a. f a + g a) ≡ weigh table jobs f + weigh table jobs g
  weigh-plus [] f g = refl
  weigh-plus (job ∷ jobs) f g =
      let part : (List Timed → ℕ) → ℕ × ℕ → ℕ = λ f pair. pair.1 * weigh table jobs (λ rest. f (timed job pair.0 ∷ rest)) in
      sum_by-same _ _ (λ pair. ap (λ s. pair.1 * s) (weigh-plus jobs (λ rest. f (timed job pair.0 ∷ rest)) (λ rest. g (timed job pair.0 ∷ rest))) ∙ omega arith) (table job)
      ∙ sum_by-plus (part f) (part g) (table job)

  -- some jobs, and then others
  pub weigh-append : (jobs more : List Job) (f : List Timed → ℕ) → weigh table (jobs ++ more) f ≡ weigh table jobs (λ a. weigh table more (λ b. f (a ++ b)))
  weigh-append [] more f = refl
  weigh-append (job ∷ jobs) more f = sum_by-same _ _ (λ pair. ap (λ s. pair.1 * s) (weigh-append jobs more (λ rest. f (timed job pair.0 ∷ rest)))) (table job)

  -- one more job
  pub weigh_push : (jobs : List Job) (job : Job) (f : List Timed → ℕ) → weigh table (jobs ++ job ∷ []) f ≡ sum_by (λ pair. pair.1 * weigh table jobs (λ a. f (a ++ timed job pair.0 ∷ []))) (table job)
  weigh_push [] job f = refl
  weigh_push (first ∷ jobs) job f =
      sum_by-same _ _ (λ pair. ap (λ s. pair.1 * s) (weigh_push jobs job (λ rest. f (timed first pair.0 ∷ rest)))) (table first)
      ∙ sums_swap (table first) (table job) (λ b c. weigh table jobs (λ a. f (timed first b ∷ (a ++ timed job c ∷ []))))

  -- one on whose time the number doesn't depend
  pub weigh_push_same : (jobs : List Job) (job : Job) (f g : List Timed → ℕ) → ((a : List Timed) (c : ℕ) → jobs_of a ≡ jobs → f (a ++ timed job c ∷ []) ≡ g a) →
      weigh table (jobs ++ job ∷ []) f ≡ total (table job) * weigh table jobs g
  weigh_push_same jobs job f g free = weigh-independent table jobs job [] f g at_end ∙ ap (λ js. total (table job) * weigh table js g) (append-nil jobs)
    where
      at_end : (a : List Timed) (c : ℕ) (b : List Timed) → jobs_of a ≡ jobs → jobs_of b ≡ [] → f (a ++ timed job c ∷ b) ≡ g (a ++ b)
      at_end a c [] of_a of_b = free a c of_a ∙ ap g (sym (append-nil a))
      at_end a c (e ∷ b) of_a of_b = absurd (cc)

  pub total_push : (jobs : List Job) (job : Job) → total_of table (jobs ++ job ∷ []) ≡ total (table job) * total_of table jobs
  total_push jobs job =
      sym (weigh_one table (jobs ++ job ∷ [])) ∙ weigh_push_same jobs job (λ a. 1) (λ a. 1) (λ a c h. refl) ∙ ap (λ s. total (table job) * s) (weigh_one table jobs)

  -- two numbers that agree where the jobs are these, and each takes time, have one sum
  pub weigh-same_timed : (jobs : List Job) (f g : List Timed → ℕ) → Each (λ job. Each (λ pair. 1 ≤ pair.0) (table job)) jobs →
      ((a : List Timed) → jobs_of a ≡ jobs → Each (λ e. 1 ≤ e.time) a → f a ≡ g a) → weigh table jobs f ≡ weigh table jobs g
  weigh-same_timed [] f g take e = e [] refl tt
  weigh-same_timed (job ∷ jobs) f g take e =
      sum_by-each _ _ (table job)
      (Each-weaker (λ pair. 1 ≤ pair.0) _
      (λ pair some. ap (λ s. pair.1 * s) (weigh-same_timed jobs _ _ take.1 (λ rest h each. e (timed job pair.0 ∷ rest) (ap (λ js. job ∷ js) h) (some, each))))
      (table job) take.0)
