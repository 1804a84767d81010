-- Numbers of units on the safe side of shares of assignments.
use Rattle.std.proofs.Common.{◌≡◌, ℕ, ◌+◌, ◌*◌, ◌≤◌, ◌<◌, Bool, true, false, nat_le, List, [], ◌∷◌, ◌++◌, sum_by, refl, ap, sym, ◌∙◌, subst, arith, le_trans, le_refl, mul-le-mul_left, add-le-add, div-mul-le_self}
use Rattle.std.proofs.lemmas.Grind.{div_ceil_times}
use Rattle.std.proofs.lemmas.List.Sums.{sum_by-cons}
use Rattle.std.proofs.lemmas.Bool.Decides.{nat_tests}
use Rattle.prta_mass.specs.Unit.{unit}
use Rattle.prta_mass.specs.Table.{Table, total}
use Rattle.prta_mass.specs.Direction.{IsSafe, divided}
use Rattle.prta_mass.specs.declared.direction.Dir.{Dir}
use Rattle.prta_mass.specs.declared.direction.Dir.TheVariants.{Up, Down}
use Rattle.prta_sheet.specs.Job.{Job}
use Rattle.prta_sheet.specs.Assignment.{Timed, total_of}
use Rattle.prta_sheet.specs.Weights.{one_if, weigh, jobs_of}
use Rattle.prta_sheet.proofs.Sums.{sum_by-times}
use Rattle.prta_sheet.proofs.Weighing.{weigh-same_on, weigh_one}
use Rattle.prta_response.proofs.Weighing.{timed, weigh-le, weigh_push, weigh_push_same, total_push}

-- ---- the safe side

pub safe-refl : (dir : Dir) (a : ℕ) → IsSafe dir a a
safe-refl Up a = le_refl a
safe-refl Down a = le_refl a

safe-trans : (dir : Dir) (a b c : ℕ) → IsSafe dir a b → IsSafe dir b c → IsSafe dir a c
safe-trans Up a b c p q = le_trans p q
safe-trans Down a b c p q = le_trans q p

pub safe-times : (dir : Dir) (k a b : ℕ) → IsSafe dir a b → IsSafe dir (k * a) (k * b)
safe-times Up k a b p = mul-le-mul_left k p
safe-times Down k a b p = mul-le-mul_left k p

safe-plus : (dir : Dir) (a b c d : ℕ) → IsSafe dir a b → IsSafe dir c d → IsSafe dir (a + c) (b + d)
safe-plus Up a b c d p q = add-le-add p q
safe-plus Down a b c d p q = add-le-add p q

pub safe-same : (dir : Dir) (a b c d : ℕ) → c ≡ a → d ≡ b → IsSafe dir a b → IsSafe dir c d
safe-same dir a b c d p q h = subst (λ x. IsSafe dir x d) (sym p) (subst (λ y. IsSafe dir a y) (sym q) h)

-- a rounded quotient, multiplied back
divided-times : (dir : Dir) (n w : ℕ) → 0 < w → IsSafe dir (divided dir n w * w) n
divided-times Up n w some = div-mul-le_self n w
divided-times Down n w some = (div_ceil_times n w some).0

sum_by-safe : (dir : Dir) {X : Type 0} (f g : X → ℕ) → ((x : X) → IsSafe dir (f x) (g x)) → (xs : List X) → IsSafe dir (sum_by f xs) (sum_by g xs)
sum_by-safe dir f g each [] = safe-refl dir 0
sum_by-safe dir f g each (x ∷ xs) = rw (sum_by-cons f x xs, sum_by-cons g x xs) (safe-plus dir _ _ _ _ (each x) (sum_by-safe dir f g each xs))

-- ---- shares

-- x is on the safe side of the mean of f over the assignments, in units
abbrev pub BoundsMean : Dir → (Job → Table) → ℕ → List Job → (List Timed → ℕ) → Type 0
BoundsMean dir table x jobs f = IsSafe dir (x * total_of table jobs) (unit * weigh table jobs f)

-- x is on the safe side of the share of the assignments under which a number is at most k, in units
abbrev pub BoundsShare : Dir → (Job → Table) → ℕ → List Job → (List Timed → ℕ) → ℕ → Type 0
BoundsShare dir table x jobs number k = BoundsMean dir table x jobs (λ a. one_if (nat_le (number a) k))

-- at each place F is on the safe side of the share
abbrev pub Bounds : Dir → (Job → Table) → (ℕ → ℕ) → List Job → (List Timed → ℕ) → Type 0
Bounds dir table F jobs number = (k : ℕ) → BoundsShare dir table (F k) jobs number k

one_if-le : (n k l : ℕ) → k ≤ l → one_if (nat_le n k) ≤ one_if (nat_le n l)
one_if-le n k l h = grind (arith, nat_tests)

one_if-most : (b : Bool) → one_if b ≤ 1
one_if-most true = le_refl 1
one_if-most false = omega arith

module _ (table : Job → Table) where
  -- what bounds the share at a place on the safe side bounds that at the place
  pub from_place : (dir : Dir) (x : ℕ) (jobs : List Job) (number : List Timed → ℕ) (i k : ℕ) → IsSafe dir i k → BoundsShare dir table x jobs number i → BoundsShare dir table x jobs number k
  from_place Up x jobs number i k safe h = le_trans h (mul-le-mul_left unit (weigh-le table jobs _ _ (λ a. one_if-le (number a) i k safe)))
  from_place Down x jobs number i k safe h = le_trans (mul-le-mul_left unit (weigh-le table jobs _ _ (λ a. one_if-le (number a) k i safe))) h

  -- the unit bounds every share in Down
  pub unit_bounds : (jobs : List Job) (p : List Timed → Bool) → BoundsMean Down table unit jobs (λ a. one_if (p a))
  unit_bounds jobs p = mul-le-mul_left unit (subst (λ x. weigh table jobs (λ a. one_if (p a)) ≤ x) (weigh_one table jobs) (weigh-le table jobs _ _ (λ a. one_if-most (p a))))

module _ (dir : Dir) (table : Job → Table) where
  -- a number with the same value at each assignment
  pub same_mean : (x : ℕ) (jobs : List Job) (f g : List Timed → ℕ) → ((a : List Timed) → jobs_of a ≡ jobs → f a ≡ g a) → BoundsMean dir table x jobs f → BoundsMean dir table x jobs g
  same_mean x jobs f g same h = safe-same dir _ _ _ _ refl (ap (λ s. unit * s) (sym (weigh-same_on table jobs f g same))) h

  -- one more job: where for each of its times a cell bounds the mean of f with that time, the rounded mean of the cells bounds the mean of f
  pub rounded_mean : (jobs : List Job) (job : Job) (f : List Timed → ℕ) (cell : ℕ → ℕ) → 0 < total (table job) →
      ((c : ℕ) → BoundsMean dir table (cell c) jobs (λ a. f (a ++ timed job c ∷ []))) →
      BoundsMean dir table (divided dir (sum_by (λ pair. pair.1 * cell pair.0) (table job)) (total (table job))) (jobs ++ job ∷ []) f
  rounded_mean jobs job f cell some each =
      let t : ℕ = total_of table jobs in
      let w : ℕ = total (table job) in
      let mean : ℕ = sum_by (λ pair. pair.1 * cell pair.0) (table job) in
      let part : ℕ → ℕ = λ c. weigh table jobs (λ a. f (a ++ timed job c ∷ [])) in
      let rounded : IsSafe dir (t * (divided dir mean w * w)) (t * mean) = safe-times dir t _ _ (divided-times dir mean w some) in
      let terms : IsSafe dir (sum_by (λ pair. t * (pair.1 * cell pair.0)) (table job)) (sum_by (λ pair. unit * (pair.1 * part pair.0)) (table job)) =
      sum_by-safe dir _ _ (λ pair. safe-same dir (pair.1 * (cell pair.0 * t)) (pair.1 * (unit * part pair.0)) _ _ (omega arith) (omega arith) (safe-times dir pair.1 _ _ (each pair.0))) (table job) in
      let sums : IsSafe dir (t * mean) (unit * weigh table (jobs ++ job ∷ []) f) =
      safe-same dir _ _ _ _ (sym (sum_by-times t (λ pair. pair.1 * cell pair.0) (table job)))
      (ap (λ s. unit * s) (weigh_push table jobs job f) ∙ sym (sum_by-times unit (λ pair. pair.1 * part pair.0) (table job))) terms in
      safe-same dir (t * (divided dir mean w * w)) (unit * weigh table (jobs ++ job ∷ []) f) _ _ (ap (λ s. divided dir mean w * s) (total_push table jobs job) ∙ omega arith) refl
      (safe-trans dir _ _ _ rounded sums)

  -- one more job, on whose time the number doesn't depend
  pub free_mean : (x : ℕ) (jobs : List Job) (job : Job) (f g : List Timed → ℕ) → ((a : List Timed) (c : ℕ) → jobs_of a ≡ jobs → f (a ++ timed job c ∷ []) ≡ g a) →
      BoundsMean dir table x jobs g → BoundsMean dir table x (jobs ++ job ∷ []) f
  free_mean x jobs job f g free h =
      let w : ℕ = total (table job) in
      safe-same dir (w * (x * total_of table jobs)) (w * (unit * weigh table jobs g)) _ _
      (ap (λ s. x * s) (total_push table jobs job) ∙ omega arith)
      (ap (λ s. unit * s) (weigh_push_same table jobs job f g free) ∙ omega arith)
      (safe-times dir w _ _ h)
