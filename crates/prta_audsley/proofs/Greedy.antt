-- The greedy over any test of a task below a set of tasks.
use Rattle.std.proofs.Common.{◌≡◌, ℕ, zero, suc, ◌+◌, ◌≤◌, ◌<◌, Bool, true, false, not, ◌&&◌, ◌||◌, nat_eq, List, [], ◌∷◌, ◌++◌, filter, length, length-append, refl, ap, sym, ◌∙◌, subst, arith, ⊎_elim}
use Rattle.std.proofs.Math.Path.{fun_ext}
use Rattle.std.specs.List.{AllByRecursion as Each, range_with_len}
use Rattle.std.proofs.lemmas.List.{nil_from_length}
use Rattle.std.proofs.lemmas.List.Elements.{All-from_recursion}
use Rattle.std.proofs.lemmas.List.FromFn.{length-range_with_len}
use Rattle.std.proofs.lemmas.List.Folds.{list_any-append}
use Rattle.std.proofs.lemmas.Bool.{cond_both, cases_lt, cases_eq, eq-eqb, ne_eqb, ltb-true, lt-ltb, or_left, or_right, not_from_true, not_from_false}
use Rattle.prta_sheet.specs.Machine.{place}
use Rattle.prta_sheet.proofs.Each.{Each-append, Each-weaker}
use Rattle.prta_jobs.specs.Permutation.{is_order, is_above}
use Rattle.prta_jobs.specs.Laws.{HasPlaces}
use Rattle.prta_jobs.proofs.OrderLists.{each_once, is_order_from, places}
use Rattle.prta_ticksim.proofs.Each.{Pairs, Pairs-append, Pairs-filter, filter_all}
use Rattle.prta_ticksim.proofs.Places.{same_place}
use Rattle.prta_audsley.specs.Greedy.{is_among, without, others, Outcome, Through, Stuck, with_lowest, place_first, greedy, greedy_over, IsMonotone, NoOrder, IsFound, AreStuck, IsBlocked, FindsOrder, GreedyFindsOrders}
use Rattle.prta_audsley.proofs.TaskLists.{Differ, Each_among, Each_from_among, among-filter, among_self, among_others, once_among, above-append, above_last, among_tasks, range_differs}

-- ---- the first that passes

abbrev First : (ℕ → Bool) → List ℕ → List ℕ → Type 0
First f xs [] = Each (λ t. f t ≡ false) xs
First f xs (t ∷ ts) = (is_among xs t ≡ true) × (f t ≡ true)

pub first_is : (f : ℕ → Bool) (xs : List ℕ) → First f xs (filter f xs)
first_is f [] = tt
first_is f (x ∷ xs) = cond_both (f x) (x ∷ filter f xs) (filter f xs) (λ ys. First f (x ∷ xs) ys)
    (λ e. (or_left (nat_eq x x) (is_among xs x) (eq-eqb x x refl), e))
    (λ e. further (filter f xs) (first_is f xs) e)
  where
    further : (ys : List ℕ) → First f xs ys → f x ≡ false → First f (x ∷ xs) ys
    further [] h e = (e, h)
    further (t ∷ ts) h e = (or_right (nat_eq x t) (is_among xs t) h.0, h.1)

-- one of a list without repetition is taken out
length-without : (t : ℕ) (xs : List ℕ) → Pairs Differ xs → is_among xs t ≡ true → length (without t xs) + 1 ≡ length xs
length-without t [] d e = cc
length-without t (x ∷ xs) d e = ⊎_elim
    (λ (same : x ≡ t).
    let no : not (nat_eq x t) ≡ false = not_from_true (nat_eq x t) (eq-eqb x t same) in
    let rest : without t xs ≡ xs = filter_all (λ i. not (nat_eq i t)) xs (Each-weaker (Differ x) _ (λ i f. not_from_false (nat_eq i t) (ne_eqb i t (λ q. f (same ∙ sym q)))) xs d.0) in
    rw (no, rest) (omega arith))
    (λ (other : x ≡ t → ⊥).
    let no : nat_eq x t ≡ false = ne_eqb x t other in
    let yes : not (nat_eq x t) ≡ true = not_from_false (nat_eq x t) no in
    let e' : is_among xs t ≡ true = sym (ap (λ b. b || is_among xs t) no) ∙ e in
    rw yes (omega (arith, length-without t xs d.1 e')))
    (cases_eq x t)

-- ---- of some tasks the one that stands lowest

lowest_of : (f : ℕ → ℕ) (x : ℕ) (xs : List ℕ) → (t : ℕ) × (is_among (x ∷ xs) t ≡ true) × Each (λ i. f i ≤ f t) (x ∷ xs)
lowest_of f x [] = (x, or_left (nat_eq x x) false (eq-eqb x x refl), (omega arith, tt))
lowest_of f x (y ∷ ys) =
    let rest : (t : ℕ) × (is_among (y ∷ ys) t ≡ true) × Each (λ i. f i ≤ f t) (y ∷ ys) = lowest_of f y ys in
    ⊎_elim
    (λ (l : f x < f (rest.0)). (rest.0, or_right (nat_eq x (rest.0)) (is_among (y ∷ ys) (rest.0)) rest.1, (omega arith, rest.2)))
    (λ (l : f (rest.0) ≤ f x). (x, or_left (nat_eq x x) (is_among (y ∷ ys) x) (eq-eqb x x refl), (omega arith, Each-weaker (λ i. f i ≤ f (rest.0)) _ (λ i h. omega arith) (y ∷ ys) rest.2)))
    (cases_lt (f x) (f (rest.0)))

-- above it in the order stand all others
pub stands_lowest : (order left : List ℕ) → 0 < length left → Each (λ i. place order i < length order) left →
    (t : ℕ) × (is_among left t ≡ true) × ((i : ℕ) → others left t i ≡ true → is_above order t i ≡ true)
stands_lowest order [] p h = absurd (omega arith)
stands_lowest order (x ∷ xs) p h =
    let one : (t : ℕ) × (is_among (x ∷ xs) t ≡ true) × Each (λ i. place order i ≤ place order t) (x ∷ xs) = lowest_of (place order) x xs in
    let t : ℕ = one.0 in (
      t,
      one.1,
      λ i e.
          let both : (is_among (x ∷ xs) i ≡ true) × (i ≡ t → ⊥) = among_others (x ∷ xs) t i e in
          let low : place order i ≤ place order t = Each_among (λ i. place order i ≤ place order t) (x ∷ xs) i one.2 both.0 in
          let listed : place order t < length order = Each_among (λ i. place order i < length order) (x ∷ xs) t h one.1 in
          let differ : place order i ≡ place order t → ⊥ = λ q. both.1 (same_place order i t listed q) in
          lt-ltb (place order i) (place order t) (omega arith),
    )

-- ---- what the greedy ends with

module _ (passes : (ℕ → Bool) → ℕ → Bool) where
  -- an order of the listed tasks in which each passes with those before it above it, or some of them of which none passes with the others above it
  abbrev pub Ends : List ℕ → Outcome → Type 0
  Ends xs (Through order) = ((i : ℕ) → is_among order i ≡ is_among xs i) × Pairs Differ order × (length order ≡ length xs) × Each (λ t. passes (is_above order t) t ≡ true) order
  Ends xs (Stuck left) = ((i : ℕ) → is_among left i ≡ true → is_among xs i ≡ true) × (0 < length left) × Each (λ t. passes (others left t) t ≡ false) left

  lowest_ends : (xs : List ℕ) (t : ℕ) (out : Outcome) → Pairs Differ xs → is_among xs t ≡ true → passes (others xs t) t ≡ true → Ends (without t xs) out → Ends xs (with_lowest t out)
  lowest_ends xs t (Through order) d e p h =
      let differ : Each (λ k. Differ k t) order = Each_from_among (λ k. Differ k t) order (λ i a. (among_others xs t i (sym (h.0 i) ∙ a)).1) in
      let last : passes (is_above (order ++ t ∷ []) t) t ≡ true = ap (λ S. passes S t) (above_last order [] t differ ∙ fun_ext h.0) ∙ p in (
        λ i. list_any-append (λ k. nat_eq k i) order (t ∷ []) ∙ ap (λ b. b || (nat_eq t i || false)) (h.0 i) ∙ joined i,
        Pairs-append Differ order (t ∷ []) h.1 (tt, tt) (Each-weaker (λ k. Differ k t) _ (λ k d. (d, tt)) order differ),
        omega (arith, length-append order (t ∷ []), h.2, length-without t xs d e),
        Each-append _ order (t ∷ [])
            (Each_from_among _ order (λ i a. ap (λ S. passes S i) (above-append order (t ∷ []) i a) ∙ Each_among (λ t. passes (is_above order t) t ≡ true) order i h.3 a))
            (last, tt),
      )
    where
      plain : (b : Bool) → ((b && true) || false) ≡ b
      plain b = elim b as (λ b. ((b && true) || false) ≡ b) [ true ↦ refl | false ↦ refl ]

      joined : (i : ℕ) → (others xs t i || (nat_eq t i || false)) ≡ is_among xs i
      joined i = ⊎_elim
          (λ (same : t ≡ i).
          let yes : nat_eq t i ≡ true = eq-eqb t i same in
          or_right (others xs t i) (nat_eq t i || false) (or_left (nat_eq t i) false yes) ∙ sym (subst (λ k. is_among xs k ≡ true) same e))
          (λ (other : t ≡ i → ⊥).
          let no : nat_eq t i ≡ false = ne_eqb t i other in
          let kept : not (nat_eq i t) ≡ true = not_from_false (nat_eq i t) (ne_eqb i t (λ q. other (sym q))) in
          rw (among-filter (λ i. not (nat_eq i t)) xs i, no, kept) (plain (is_among xs i)))
          (cases_eq t i)
  lowest_ends xs t (Stuck left) d e p h = (λ i a. (among_others xs t i (h.0 i a)).0, h.1, h.2)

  choice_ends : (xs : List ℕ) (go : ℕ → Outcome) → 0 < length xs → Pairs Differ xs → ((t : ℕ) → is_among xs t ≡ true → Ends (without t xs) (go t)) →
      (ys : List ℕ) → First (λ t. passes (others xs t) t) xs ys → Ends xs (place_first xs go ys)
  choice_ends xs go some d ends [] h = (λ i a. a, some, h)
  choice_ends xs go some d ends (t ∷ ts) h = lowest_ends xs t (go t) d h.0 h.1 (ends t h.0)

  pub greedy_ends : (n : ℕ) (xs : List ℕ) → length xs ≡ n → Pairs Differ xs → Ends xs (greedy passes n xs)
  greedy_ends zero xs len d = let none : xs ≡ [] = nil_from_length xs len in (λ i. sym (ap (λ ys. is_among ys i) none), tt, sym len, tt)
  greedy_ends (suc n) xs len d =
      choice_ends xs (λ t. greedy passes n (without t xs)) (omega arith) d
      (λ t e. greedy_ends n (without t xs) (omega (arith, length-without t xs d e)) (Pairs-filter _ Differ xs d))
      (filter (λ t. passes (others xs t) t) xs) (first_is (λ t. passes (others xs t) t) xs)

  -- some of n tasks that are left over
  stuck_are : (n : ℕ) (left : List ℕ) → ((i : ℕ) → is_among left i ≡ true → i < n) → 0 < length left → Each (λ t. passes (others left t) t ≡ false) left → AreStuck passes n left
  stuck_are n [] listed some none = absurd (omega arith)
  stuck_are n (x ∷ xs) listed some none = record {
    first = x;
    some = among_self x xs;
    listed = listed;
    none = λ i a. Each_among (λ t. passes (others (x ∷ xs) t) t ≡ false) (x ∷ xs) i none a;
  }

-- ---- over n tasks

module _ (passes : (ℕ → Bool) → ℕ → Bool) (n : ℕ) where
  abbrev all_tasks : List ℕ
  all_tasks = range_with_len 0 n

  ends : (out : Outcome) → greedy_over passes n ≡ out → Ends passes all_tasks out
  ends out e = subst (λ o. Ends passes all_tasks o) e (greedy_ends passes n all_tasks (length-range_with_len 0 n) (range_differs 0 n))

  listed_in : (order : List ℕ) → is_order n order ≡ true → (task : ℕ) → task < n → place order task < length order
  listed_in order is task low = let at : HasPlaces n order = places n order (each_once n order is) in omega (arith, at.place_below task low, at.length_is)

  below : (task : ℕ) → is_among all_tasks task ≡ true → task < n
  below task a = ltb-true task n (sym (among_tasks n task) ∙ a)

  pub through_passes : (order : List ℕ) → greedy_over passes n ≡ Through order → IsFound passes n order
  through_passes order e =
      let h : Ends passes all_tasks (Through order) = ends (Through order) e in
      let among : (i : ℕ) → i < n → is_among order i ≡ true = λ i low. h.0 i ∙ among_tasks n i ∙ lt-ltb i n low in
      record {
        permutation = is_order_from n order record {
          whole = h.2 ∙ length-range_with_len 0 n;
          tasks = All-from_recursion (λ i. i < n) order (Each_from_among (λ i. i < n) order (λ i a. below i (sym (h.0 i) ∙ a)));
          once = λ i low. once_among order i h.1 (among i low);
        };
        passing = λ task low. Each_among (λ t. passes (is_above order t) t ≡ true) order task h.3 (among task low);
      }

  pub stuck_left : (left : List ℕ) → greedy_over passes n ≡ Stuck left → AreStuck passes n left
  stuck_left left e =
      let h : Ends passes all_tasks (Stuck left) = ends (Stuck left) e in
      stuck_are passes n left (λ i a. below i (h.0 i a)) h.1 h.2

  pub stuck_blocked : (left order : List ℕ) → greedy_over passes n ≡ Stuck left → is_order n order ≡ true → (task : ℕ) × IsBlocked left order task
  stuck_blocked left order e is =
      let h : Ends passes all_tasks (Stuck left) = ends (Stuck left) e in
      let one = stands_lowest order left h.1 (Each_from_among _ left (λ i a. listed_in order is i (below i (h.0 i a)))) in
      (one.0, record { left_over = one.1; above = one.2 })

  pub stuck_fails : IsMonotone passes n → (left : List ℕ) → greedy_over passes n ≡ Stuck left → NoOrder passes n
  stuck_fails fewer left e order is all =
      let stuck : AreStuck passes n left = stuck_left left e in
      let one : (task : ℕ) × IsBlocked left order task = stuck_blocked left order e is in
      let t : ℕ = one.0 in
      let yes : passes (others left t) t ≡ true = fewer (is_above order t) (others left t) t (stuck.listed t (one.1).left_over) (one.1).above (all t (stuck.listed t (one.1).left_over)) in
      let no : passes (others left t) t ≡ false = stuck.none t (one.1).left_over in cc

  goes_through : IsMonotone passes n → (order : List ℕ) → IsFound passes n order → (out : Outcome) → greedy_over passes n ≡ out → (found : List ℕ) × (greedy_over passes n ≡ Through found)
  goes_through fewer order is (Through found) e = (found, e)
  goes_through fewer order is (Stuck left) e = absurd (stuck_fails fewer left e order is.permutation is.passing)

  pub finds_order : FindsOrder passes n
  finds_order = record {
    through = through_passes;
    stuck = stuck_left;
    blocked = stuck_blocked;
    none = stuck_fails;
    complete = λ fewer order is. goes_through fewer order is (greedy_over passes n) refl;
  }

pub greedy_finds_orders : GreedyFindsOrders
greedy_finds_orders passes n = finds_order passes n
