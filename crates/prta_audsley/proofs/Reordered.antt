-- Of the tasks that stand above one in an order, some stay there and the others go below it.
use Rattle.std.proofs.Common.{◌≡◌, ℕ, ◌+◌, ◌*◌, ◌<◌, Bool, true, false, not, ◌&&◌, cond, nat_eq, List, [], ◌∷◌, ◌++◌, filter, sum_by, length, refl, ap, ap₂, sym, ◌∙◌, arith, ⊎_elim, le_trans}
use Rattle.std.specs.List.{AllByRecursion as Each}
use Rattle.std.proofs.lemmas.List.Elements.{All-from_recursion, recursion_from_All}
use Rattle.std.proofs.lemmas.List.Sums.{sum_by-cons, sum_by-append}
use Rattle.std.proofs.lemmas.Bool.{cases_Bool, cases_eq, eq-eqb, ne_eqb, ltb-true, lt-ltb, and_from, and_right}
use Rattle.prta_sheet.specs.Machine.{place}
use Rattle.prta_sheet.specs.Weights.{one_if}
use Rattle.prta_sheet.proofs.Each.{Each-append}
use Rattle.prta_jobs.specs.Permutation.{is_order, is_above}
use Rattle.prta_jobs.proofs.OrderLists.{times_in, AreEachOnce, each_once, is_order_from}
use Rattle.prta_ticksim.proofs.Each.{Each_passes}
use Rattle.prta_backlog.proofs.Released.{Each-filter}
use Rattle.prta_audsley.specs.Greedy.{is_among, IsPartOf}
use Rattle.prta_audsley.specs.Fewer.{HasFewerAbove}
use Rattle.prta_audsley.proofs.TaskLists.{Differ, among-filter, place-among, place_le, above_last}

length_sum : (xs : List ℕ) → sum_by (λ x. 1) xs ≡ length xs
length_sum [] = refl
length_sum (x ∷ xs) = omega (arith, sum_by-cons (λ (x : ℕ). 1) x xs, length_sum xs)

sum_kept : (g : ℕ → ℕ) (p : ℕ → Bool) (x : ℕ) (xs : List ℕ) → p x ≡ true → sum_by g (filter p (x ∷ xs)) ≡ g x + sum_by g (filter p xs)
sum_kept g p x xs e = ap (λ b. sum_by g (cond b (x ∷ filter p xs) (filter p xs))) e ∙ sum_by-cons g x (filter p xs)

sum_left : (g : ℕ → ℕ) (p : ℕ → Bool) (x : ℕ) (xs : List ℕ) → p x ≡ false → sum_by g (filter p (x ∷ xs)) ≡ sum_by g (filter p xs)
sum_left g p x xs e = ap (λ b. sum_by g (cond b (x ∷ filter p xs) (filter p xs))) e

module _ (order : List ℕ) (own : ℕ) (part : ℕ → Bool) (sub : IsPartOf part (is_above order own)) where
  -- the tasks that go below
  abbrev rest : ℕ → Bool
  rest i = not (part i) && not (nat_eq i own)

  abbrev pub reordered : List ℕ
  reordered = filter part order ++ own ∷ filter rest order

  differs : (i : ℕ) → part i ≡ true → Differ i own
  differs i e same =
      let higher : place order i < place order own = ltb-true (place order i) (place order own) (sub i e) in
      let q : place order i ≡ place order own = ap (place order) same in
      absurd (omega arith)

  -- ---- the same tasks

  module _ (g : ℕ → ℕ) where
    parts : (xs : List ℕ) → sum_by g xs ≡ sum_by g (filter part xs) + (times_in xs own * g own + sum_by g (filter rest xs))
    parts [] = omega arith
    parts (x ∷ xs) = ⊎_elim
        (λ (in_part : part x ≡ true).
        let out : rest x ≡ false = ap (λ b. not b && not (nat_eq x own)) in_part in
        omega (arith, sum_by-cons g x xs, sum_kept g part x xs in_part, sum_left g rest x xs out, parts xs, times_on x xs (ne_eqb x own (differs x in_part))))
        (λ (no : part x ≡ false). ⊎_elim
        (λ (same : x ≡ own).
        let yes : nat_eq x own ≡ true = eq-eqb x own same in
        let out : rest x ≡ false = ap₂ (λ a b. not a && not b) no yes in
        omega (arith, sum_by-cons g x xs, sum_left g part x xs no, sum_left g rest x xs out, parts xs, times_own x xs yes, ap g same))
        (λ (differ : x ≡ own → ⊥).
        let other : nat_eq x own ≡ false = ne_eqb x own differ in
        let inside : rest x ≡ true = ap₂ (λ a b. not a && not b) no other in
        omega (arith, sum_by-cons g x xs, sum_left g part x xs no, sum_kept g rest x xs inside, parts xs, times_on x xs other))
        (cases_eq x own))
        (cases_Bool (part x))
      where
        times_on : (x : ℕ) (xs : List ℕ) → nat_eq x own ≡ false → times_in (x ∷ xs) own * g own ≡ times_in xs own * g own
        times_on x xs e = let same : times_in (x ∷ xs) own ≡ times_in xs own = omega (arith, sum_by-cons (λ other. one_if (nat_eq other own)) x xs, ap one_if e) in ap (λ n. n * g own) same

        times_own : (x : ℕ) (xs : List ℕ) → nat_eq x own ≡ true → times_in (x ∷ xs) own * g own ≡ g own + times_in xs own * g own
        times_own x xs e =
            let same : times_in (x ∷ xs) own ≡ 1 + times_in xs own = omega (arith, sum_by-cons (λ other. one_if (nat_eq other own)) x xs, ap one_if e) in
            ap (λ n. n * g own) same ∙ omega arith

    same_sum : times_in order own ≡ 1 → sum_by g reordered ≡ sum_by g order
    same_sum once =
        let own_sum : times_in order own * g own ≡ g own = ap (λ n. n * g own) once ∙ omega arith in
        omega (arith, sum_by-append g (filter part order) (own ∷ filter rest order), sum_by-cons g own (filter rest order), parts order, own_sum)

  module _ (n : ℕ) (is : is_order n order ≡ true) (listed : own < n) where
    each : AreEachOnce n order
    each = each_once n order is

    pub reordered_is : is_order n reordered ≡ true
    reordered_is =
        let inside : Each (λ i. i < n) order = recursion_from_All (λ i. i < n) order each.tasks in
        is_order_from n reordered record {
          whole = sym (length_sum reordered) ∙ same_sum (λ x. 1) (each.once own listed) ∙ length_sum order ∙ each.whole;
          tasks = All-from_recursion (λ i. i < n) reordered
              (Each-append (λ i. i < n) (filter part order) (own ∷ filter rest order) (Each-filter (λ i. i < n) part order inside) (listed, Each-filter (λ i. i < n) rest order inside));
          once = λ i low. same_sum (λ other. one_if (nat_eq other i)) (each.once own listed) ∙ each.once i low;
        }

  -- ---- exactly those stand above it

  pub exactly : (i : ℕ) → part i ≡ is_above reordered own i
  exactly i =
      let first : Each (λ k. Differ k own) (filter part order) = Each_passes part _ differs order in
      sym (ap (λ f. f i) (above_last (filter part order) (filter rest order) own first) ∙ among-filter part order i ∙ ⊎_elim
      (λ (yes : part i ≡ true).
      let higher : place order i < place order own = ltb-true (place order i) (place order own) (sub i yes) in
      let among : is_among order i ≡ true = sym (place-among order i) ∙ lt-ltb (place order i) (length order) (le_trans higher (place_le order own)) in
      and_from (is_among order i) (part i) among yes ∙ sym yes)
      (λ (no : part i ≡ false). and_right (is_among order i) (part i) no ∙ sym no)
      (cases_Bool (part i)))

  pub has_fewer : HasFewerAbove order reordered own
  has_fewer i e = sub i (exactly i ∙ e)
