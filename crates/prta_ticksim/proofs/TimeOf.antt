-- The time that remains to those jobs of a list that pass a test.
use Rattle.std.proofs.Common.{◌≡◌, ℕ, suc, ◌+◌, Bool, true, false, ◌&&◌, cond, nat_le, nat_lt, nat_eq, List, ◌∷◌, filter, sum_by, refl, ◌∙◌, arith}
use Rattle.std.specs.List.{AllByRecursion as Each}
use Rattle.std.proofs.lemmas.List.Sums.{sum_by-cons}
use Rattle.std.proofs.lemmas.Bool.Decides.{nat_tests}
use Rattle.prta_sheet.specs.Job.{Job}
use Rattle.prta_sheet.specs.Assignment.{Timed}
use Rattle.prta_ticksim.proofs.Sums.{sum_by-same, sum_by-none, sum_by-plus, sum_by-filter}

abbrev pub time_of : (Job → Bool) → List Timed → ℕ
time_of p es = sum_by (λ e. cond (p e.job) e.time 0) es

-- of the jobs that pass, those released at or before t, after t, and at t
abbrev pub until : (Job → Bool) → ℕ → Job → Bool
until p t job = p job && nat_le job.release t

abbrev pub later : (Job → Bool) → ℕ → Job → Bool
later p t job = p job && nat_lt t job.release

abbrev pub at : (Job → Bool) → ℕ → Job → Bool
at p t job = p job && nat_eq job.release t

-- two tests that pass the same time of each job
pub time_of-same : (p q : Job → Bool) → ((job : Job) (c : ℕ) → cond (p job) c 0 ≡ cond (q job) c 0) → (es : List Timed) → time_of p es ≡ time_of q es
time_of-same p q same es = sum_by-same _ _ (λ e. same e.job e.time) es

-- a test that passes what either of two others passes
pub time_of-split : (p q r : Job → Bool) → ((job : Job) (c : ℕ) → cond (p job) c 0 ≡ cond (q job) c 0 + cond (r job) c 0) → (es : List Timed) → time_of p es ≡ time_of q es + time_of r es
time_of-split p q r split es = sum_by-same _ _ (λ e. split e.job e.time) es ∙ sum_by-plus (λ e. cond (q e.job) e.time 0) (λ e. cond (r e.job) e.time 0) es

pub time_of-none : (p : Job → Bool) (es : List Timed) → Each (λ e. cond (p e.job) e.time 0 ≡ 0) es → time_of p es ≡ 0
time_of-none p es none = sum_by-none _ es none

pub time_of-cons : (p : Job → Bool) (e : Timed) (es : List Timed) → time_of p (e ∷ es) ≡ cond (p e.job) e.time 0 + time_of p es
time_of-cons p e es = sum_by-cons (λ e. cond (p e.job) e.time 0) e es

-- of what is left of a list by a test
pub time_of-filter : (p q : Job → Bool) (es : List Timed) → time_of p (filter (λ e. q e.job) es) ≡ time_of (λ job. q job && p job) es
time_of-filter p q es = sum_by-filter (λ e. q e.job) (λ e. cond (p e.job) e.time 0) es ∙ sum_by-same _ _ (λ e. both (q e.job) (p e.job) e.time) es
  where
    both : (a b : Bool) (c : ℕ) → cond a (cond b c 0) 0 ≡ cond (a && b) c 0
    both true b c = refl
    both false b c = refl

-- ---- by release

module _ (p : Job → Bool) (es : List Timed) where
  pub all_is : (t : ℕ) → time_of p es ≡ time_of (until p t) es + time_of (later p t) es
  all_is t = time_of-split p (until p t) (later p t) (λ job c. parts (p job) job.release c) es
    where
      parts : (b : Bool) (r c : ℕ) → cond b c 0 ≡ cond (b && nat_le r t) c 0 + cond (b && nat_lt t r) c 0
      parts true r c = grind (arith, nat_tests)
      parts false r c = refl

  pub later_is : (t : ℕ) → time_of (later p t) es ≡ time_of (later p (suc t)) es + time_of (at p (suc t)) es
  later_is t = time_of-split (later p t) (later p (suc t)) (at p (suc t)) (λ job c. parts (p job) job.release c) es
    where
      parts : (b : Bool) (r c : ℕ) → cond (b && nat_lt t r) c 0 ≡ cond (b && nat_lt (suc t) r) c 0 + cond (b && nat_eq r (suc t)) c 0
      parts true r c = grind (arith, nat_tests)
      parts false r c = refl

  pub until_zero : time_of (until p 0) es ≡ time_of (at p 0) es
  until_zero = time_of-same (until p 0) (at p 0) (λ job c. same (p job) job.release c) es
    where
      same : (b : Bool) (r c : ℕ) → cond (b && nat_le r 0) c 0 ≡ cond (b && nat_eq r 0) c 0
      same true r c = grind (arith, nat_tests)
      same false r c = refl
