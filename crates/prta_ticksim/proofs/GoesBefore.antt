-- Which job goes before which.
use Rattle.std.proofs.Common.{◌≡◌, ℕ, true, false, ◌&&◌, ◌||◌, nat_lt, nat_eq, List, AllPairs, arith, inl, inr, ◌⊎◌}
use Rattle.std.proofs.lemmas.Bool.{both_ways, cases_order}
use Rattle.std.proofs.lemmas.Bool.Decides.{nat_tests}
use Rattle.prta_sheet.specs.Job.{Job}
use Rattle.prta_sheet.specs.Machine.{place, goes_before}
use Rattle.prta_ticksim.specs.Times.{job_at}
use Rattle.prta_ticksim.specs.Serving.{AreApart}
use Rattle.prta_ticksim.proofs.Each.{Pairs, AllPairs-from_pairs}

abbrev pub Goes : List ℕ → Job → Job → Type 0
Goes order a b = goes_before order a b ≡ true

module _ (order : List ℕ) where
  pub goes_on : (a b c : Job) → Goes order a b → Goes order b c → Goes order a c
  goes_on a b c ab bc = on (place order a.task) (place order b.task) (place order c.task) a.release b.release c.release ab bc
    where
      on : (p q o r s u : ℕ) → (nat_lt p q || (nat_eq p q && nat_lt r s)) ≡ true → (nat_lt q o || (nat_eq q o && nat_lt s u)) ≡ true → (nat_lt p o || (nat_eq p o && nat_lt r u)) ≡ true
      on p q o r s u ab bc = grind (arith, nat_tests)

  pub goes_not_itself : (a : Job) → goes_before order a a ≡ false
  goes_not_itself a = not_itself (place order a.task) a.release
    where
      not_itself : (p r : ℕ) → (nat_lt p p || (nat_eq p p && nat_lt r r)) ≡ false
      not_itself p r = grind (arith, nat_tests)

-- of two jobs one goes before the other
abbrev pub Apart : List ℕ → Job → Job → Type 0
Apart order a b = Goes order a b ⊎ Goes order b a

-- the same by places
pub apart_by_places : (order : List ℕ) (jobs : List Job) → Pairs (Apart order) jobs → AreApart order jobs
apart_by_places order jobs pairs i j low_i low_j not_i not_j =
    let apart : AllPairs (Apart order) jobs = AllPairs-from_pairs (Apart order) jobs pairs in
    elim (cases_order i j) [
      | inl here ↦ here
      | inr (inl before) ↦ absurd (neither (job_at jobs i) (job_at jobs j) (apart i j _ before low_j) not_i not_j)
      | inr (inr after) ↦ absurd (neither (job_at jobs j) (job_at jobs i) (apart j i _ after low_i) not_j not_i)
    ]
  where
    neither : (a b : Job) → Apart order a b → goes_before order a b ≡ false → goes_before order b a ≡ false → ⊥
    neither a b (inl goes) not_a not_b = both_ways (goes_before order a b) not_a goes
    neither a b (inr goes) not_a not_b = both_ways (goes_before order b a) not_b goes
