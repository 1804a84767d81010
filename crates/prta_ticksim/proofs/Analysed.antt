-- Of two jobs before a time one goes before the other, in every order of the tasks.
use Rattle.std.proofs.Common.{◌≡◌, ℕ, ◌<◌, true, ◌&&◌, ◌||◌, nat_lt, nat_eq, List, length, get_or, ap, arith, inl, inr}
use Rattle.std.specs.List.{AllByRecursion as Each}
use Rattle.std.proofs.lemmas.Bool.{cases_eq, cases_order}
use Rattle.std.proofs.lemmas.Bool.Decides.{nat_tests}
use Rattle.std.proofs.lemmas.List.Elements.{recursion_from_All}
use Rattle.prta_sheet.specs.Sheet.{Task}
use Rattle.prta_sheet.specs.Job.{Job, jobs_before}
use Rattle.prta_sheet.specs.Machine.{place}
use Rattle.prta_jobs.specs.Laws.{OrdersHavePlaces, JobsAreBefore}
use Rattle.prta_jobs.specs.Permutation.{is_order}
use Rattle.prta_ticksim.specs.Serving.{AreApart}
use Rattle.prta_ticksim.proofs.Each.{Pairs, Pairs-weaker}
use Rattle.prta_ticksim.proofs.JobOrder.{InOrder, before_in_order}
use Rattle.prta_ticksim.proofs.Places.{same_place, place_within}
use Rattle.prta_ticksim.proofs.GoesBefore.{Goes, Apart, apart_by_places}

module _ (order : List ℕ) where
  higher_goes : (a b : Job) → place order a.task < place order b.task → Goes order a b
  higher_goes a b higher = by_place (place order a.task) (place order b.task) a.release b.release higher
    where
      by_place : (p q r s : ℕ) → p < q → (nat_lt p q || (nat_eq p q && nat_lt r s)) ≡ true
      by_place p q r s higher = grind (arith, nat_tests)

  earlier_goes : (a b : Job) → a.task ≡ b.task → a.release < b.release → Goes order a b
  earlier_goes a b same earlier = by_release (place order a.task) (place order b.task) a.release b.release (ap (place order) same) earlier
    where
      by_release : (p q r s : ℕ) → p ≡ q → r < s → (nat_lt p q || (nat_eq p q && nat_lt r s)) ≡ true
      by_release p q r s same earlier = grind (arith, nat_tests)

  are_apart : (a b : Job) → place order b.task < length order → InOrder a b → Apart order a b
  are_apart a b within in_order =
      elim (cases_eq a.task b.task) [
        | inl same ↦ inl (earlier_goes a b same (in_order.1 same))
        | inr other ↦
            elim (cases_order (place order a.task) (place order b.task)) [
              | inl one ↦ absurd (other (same_place order a.task b.task within one))
              | inr (inl higher) ↦ inl (higher_goes a b higher)
              | inr (inr lower) ↦ inr (higher_goes b a lower)
            ]
      ]

  -- so of a list of jobs, where the order has a place for the task of each
  pub all_apart : (jobs : List Job) → Each (λ job. place order job.task < length order) jobs → Pairs InOrder jobs → Pairs (Apart order) jobs
  all_apart jobs placed in_order = Pairs-weaker (λ (job : Job). place order job.task < length order) InOrder (Apart order) (λ a b p q o. are_apart a b q o) jobs placed in_order

-- ---- all jobs before a time

module _ (have_places : OrdersHavePlaces) (are_before : JobsAreBefore) (tasks : List Task) (order : List ℕ) (is : is_order (length tasks) order ≡ true) (t : ℕ) where
  abbrev jobs : List Job
  jobs = jobs_before tasks t

  -- the order has a place for the task of each
  pub placed : Each (λ job. place order job.task < length order) jobs
  placed = recursion_from_All _ jobs (λ k d low. place_within have_places (length tasks) order is (get_or jobs k d).task (are_before tasks t k d low).task)

  pub apart_in_order : AreApart order jobs
  apart_in_order = apart_by_places order jobs (all_apart order jobs placed (before_in_order tasks t))
