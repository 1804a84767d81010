-- Counts of a list by a number that each of its elements has.
use Rattle.std.proofs.Common.{◌≡◌, ℕ, zero, suc, ◌+◌, ◌<◌, cond, nat_eq, List, [], ◌∷◌, length, filter, get_or, sum_by, refl, zero-add, ap, ap₂, sym, ◌∙◌, arith, inl, inr}
use Rattle.std.specs.List.{AllByRecursion as Each}
use Rattle.std.proofs.lemmas.Bool.{cases_lt, ne_eqb, eq-eqb}
use Rattle.std.proofs.lemmas.List.Sums.{sum_by-cons, length-filter}
use Rattle.prta_sheet.specs.Sheet.{Task}
use Rattle.prta_sheet.specs.Job.{Job, jobs_before}
use Rattle.prta_sheet.specs.Counts.{releases}
use Rattle.prta_sheet.specs.Laws.{ReleasesBefore}
use Rattle.prta_jobs.specs.Laws.{IsBefore}
use Rattle.prta_jobs.proofs.JobsBefore.{each_weaker, each_before}

-- the sum over the numbers below n
abbrev sum_below : (ℕ → ℕ) → ℕ → ℕ
sum_below f zero = 0
sum_below f (suc n) = sum_below f n + f n

same_sum : (f g : ℕ → ℕ) (n : ℕ) → ((k : ℕ) → k < n → f k ≡ g k) → sum_below f n ≡ sum_below g n
same_sum f g zero e = refl
same_sum f g (suc n) e = ap₂ (λ a b. a + b) (same_sum f g n (λ k low. e k (omega arith))) (e n (omega arith))

first_and_rest : (f : ℕ → ℕ) (n : ℕ) → sum_below f (suc n) ≡ f 0 + sum_below (λ k. f (suc k)) n
first_and_rest f zero = omega arith
first_and_rest f (suc n) = omega (arith, first_and_rest f n)

no_sum : (n : ℕ) → sum_below (λ k. 0) n ≡ 0
no_sum zero = refl
no_sum (suc n) = omega (arith, no_sum n)

-- where one term is larger by 1, the sum is
one_more : (f g : ℕ → ℕ) (n i : ℕ) → i < n → f i ≡ 1 + g i → ((k : ℕ) → (k ≡ i → ⊥) → f k ≡ g k) → sum_below f n ≡ 1 + sum_below g n
one_more f g zero i low here other = absurd (omega arith)
one_more f g (suc n) i low here other =
    elim (cases_lt i n) [
      | inl before ↦ omega (arith, one_more f g n i before here other, other n (λ same. omega arith))
      | inr last ↦
          let same : n ≡ i = omega arith in
          omega (arith, same_sum f g n (λ k l. other k (λ e. omega arith)), ap f same, ap g same, here)
    ]

module _ {X : Type 0} (key : X → ℕ) where
  abbrev count_at : List X → ℕ → ℕ
  count_at xs i = length (filter (λ x. nat_eq (key x) i) xs)

  count_cons : (x : X) (xs : List X) (i : ℕ) → count_at (x ∷ xs) i ≡ cond (nat_eq (key x) i) 1 0 + count_at xs i
  count_cons x xs i =
      length-filter (λ y. nat_eq (key y) i) (x ∷ xs)
      ∙ sum_by-cons (λ y. cond (nat_eq (key y) i) 1 0) x xs
      ∙ ap (λ n. cond (nat_eq (key x) i) 1 0 + n) (sym (length-filter (λ y. nat_eq (key y) i) xs))

  -- where each number is below n, the counts of the numbers add up to the length
  pub counts_add_up : (n : ℕ) (xs : List X) → Each (λ x. key x < n) xs → sum_below (count_at xs) n ≡ length xs
  counts_add_up n [] each = no_sum n
  counts_add_up n (x ∷ xs) each =
      one_more (count_at (x ∷ xs)) (count_at xs) n (key x) each.0
      (count_cons x xs (key x) ∙ ap (λ b. cond b 1 0 + count_at xs (key x)) (eq-eqb (key x) (key x) refl))
      (λ k other. count_cons x xs k ∙ ap (λ b. cond b 1 0 + count_at xs k) (ne_eqb (key x) k (λ e. other (sym e))) ∙ zero-add (count_at xs k))
      ∙ ap (λ m. 1 + m) (counts_add_up n xs each.1)
      ∙ omega arith

-- ---- jobs

sum_by_places : {X : Type 0} (f : X → ℕ) (xs : List X) (d : X) → sum_by f xs ≡ sum_below (λ i. f (get_or xs i d)) (length xs)
sum_by_places f [] d = refl
sum_by_places f (x ∷ xs) d = omega (arith, sum_by-cons f x xs, sum_by_places f xs d, first_and_rest (λ i. f (get_or (x ∷ xs) i d)) (length xs))

-- the number of all jobs before a time, from the number of each task's
pub count_of_jobs : ReleasesBefore → (tasks : List Task) (t : ℕ) → sum_by (λ task. releases task t) tasks ≡ length (jobs_before tasks t)
count_of_jobs law tasks t =
    sum_by_places (λ task. releases task t) tasks _
    ∙ same_sum _ _ (length tasks) (λ i low. sym (law tasks i t low))
    ∙ counts_add_up (λ (job : Job). job.task) (length tasks) (jobs_before tasks t)
    (each_weaker (IsBefore tasks t) (λ (job : Job). job.task < length tasks) (λ job is. is.task) (jobs_before tasks t) (each_before tasks t))
