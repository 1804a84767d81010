-- Lists of task numbers: ranges, orders, and what stands before a task.
use Rattle.std.proofs.Common.{◌≡◌, ℕ, zero, suc, ◌+◌, ◌<◌, ◌≤◌, Bool, true, false, ◌&&◌, ◌||◌, nat_eq, nat_lt, List, [], ◌∷◌, ◌++◌, length, take, get_or, count_by, All, refl, ap, sym, subst, ◌∙◌, arith, inl, inr}
use Rattle.std.specs.List.{list_all, list_any, range_with_len, position_or_len}
use Rattle.std.specs.List.Sorted.{IsPermutation}
use Rattle.std.proofs.lemmas.Bool.{cases_lt, lt-ltb, le-ltb, ltb-true, ltb-false, ne_eqb, eq-eqb, eqb-true, and_from, and_parts, or_parts, both_ways, cases_Bool}
use Rattle.std.proofs.lemmas.List.{map-id, take_all}
use Rattle.std.proofs.lemmas.List.FromFn.{length-range_with_len, get_or-range_with_len, map-range_with_len_more}
use Rattle.std.proofs.lemmas.List.Folds.{list_all-append, list_all_at, list_any_more}
use Rattle.std.proofs.lemmas.List.Sums.{sum_by-cons, sum_by-take-le, count_by_more_yes, passes_at_first, AllPass-from_list_all, list_all-from_AllPass}
use Rattle.std.proofs.lemmas.List.Sorted.{length_permutation, All-permutation, sum_by-IsPermutation}
use Rattle.prta_sheet.specs.declared.limits.TheConstants.{TASK_LIMIT}
use Rattle.prta_sheet.specs.Machine.{place}
use Rattle.prta_sheet.specs.Weights.{one_if}
use Rattle.prta_jobs.specs.Permutation.{stands_once, is_order, IsOrder, is_above}
use Rattle.prta_jobs.specs.Laws.{HasPlaces}

-- how often a task stands in a list
abbrev pub times_in : List ℕ → ℕ → ℕ
times_in list task = count_by (λ other. nat_eq other task) list

-- ---- ranges

pub range_more : (n : ℕ) → range_with_len 0 (n + 1) ≡ range_with_len 0 n ++ n ∷ []
range_more n =
    let last : 0 + n ≡ n = omega arith in
    sym (map-id (range_with_len 0 (n + 1)))
    ∙ map-range_with_len_more (λ (k : ℕ). k) 0 n n last
    ∙ ap (λ (list : List ℕ). list ++ n ∷ []) (map-id (range_with_len 0 n))

pub all_more : (p : ℕ → Bool) (n : ℕ) → list_all p (range_with_len 0 n) ≡ true → p n ≡ true → list_all p (range_with_len 0 (n + 1)) ≡ true
all_more p n before here =
    ap (list_all p) (range_more n) ∙ list_all-append p (range_with_len 0 n) (n ∷ []) ∙ and_from (list_all p (range_with_len 0 n)) (p n && true) before (and_from (p n) true here refl)

pub fails_in_range : (p : ℕ → Bool) (n k : ℕ) → k < n → p k ≡ false → list_all p (range_with_len 0 n) ≡ false
fails_in_range p n k low fails =
    let size : length (range_with_len 0 n) ≡ n = length-range_with_len 0 n in
    let place : get_or (range_with_len 0 n) k 0 ≡ k = omega (arith, get_or-range_with_len 0 n k 0 low) in
    list_all_at p (range_with_len 0 n) k 0 (omega arith) (ap p place ∙ fails)

module _ (i : ℕ) where
  none_before : (a n : ℕ) → i < a → times_in (range_with_len a n) i ≡ 0
  none_before a zero low = refl
  none_before a (suc n) low =
      let this : one_if (nat_eq a i) ≡ 0 = ap one_if (ne_eqb a i (λ e. omega arith)) in
      omega (arith, sum_by-cons (λ other. one_if (nat_eq other i)) a (range_with_len (a + 1) n), none_before (a + 1) n (omega arith), this)

  once_inside : (a n : ℕ) → a ≤ i → i < a + n → times_in (range_with_len a n) i ≡ 1
  once_inside a zero low high = absurd (omega arith)
  once_inside a (suc n) low high =
      elim (cases_lt a i) [
        | inl later ↦
            let this : one_if (nat_eq a i) ≡ 0 = ap one_if (ne_eqb a i (λ e. omega arith)) in
            omega (arith, sum_by-cons (λ other. one_if (nat_eq other i)) a (range_with_len (a + 1) n), once_inside (a + 1) n (omega arith) (omega arith), this)
        | inr here ↦
            let this : one_if (nat_eq a i) ≡ 1 = ap one_if (eq-eqb a i (omega arith)) in
            omega (arith, sum_by-cons (λ other. one_if (nat_eq other i)) a (range_with_len (a + 1) n), none_before (a + 1) n (omega arith), this)
      ]

-- ---- orders

-- what the test of an order says
pub record AreEachOnce (n : ℕ) (list : List ℕ) : Type 0 where
  pub whole : length list ≡ n
  pub tasks : All (λ task. task < n) list
  pub once : (i : ℕ) → i < n → times_in list i ≡ 1

pub each_once : (n : ℕ) (list : List ℕ) → is_order n list ≡ true → AreEachOnce n list
each_once n list holds =
    let (whole, rest) = and_parts (nat_eq (length list) n) (list_all (λ task. nat_lt task n) list && list_all (stands_once list) (range_with_len 0 n)) holds in
    let (tasks, once) = and_parts (list_all (λ task. nat_lt task n) list) (list_all (stands_once list) (range_with_len 0 n)) rest in
    record {
      whole = eqb-true (length list) n whole;
      tasks = λ k d low. ltb-true (get_or list k d) n (AllPass-from_list_all (λ task. nat_lt task n) list tasks k d low);
      once = λ i low.
          let size : length (range_with_len 0 n) ≡ n = length-range_with_len 0 n in
          let place : get_or (range_with_len 0 n) i 0 ≡ i = omega (arith, get_or-range_with_len 0 n i 0 low) in
          eqb-true (times_in list i) 1
          (ap (stands_once list) (sym place) ∙ AllPass-from_list_all (stands_once list) (range_with_len 0 n) once i 0 (omega arith));
    }

pub is_order_from : (n : ℕ) (list : List ℕ) → AreEachOnce n list → is_order n list ≡ true
is_order_from n list each =
    and_from (nat_eq (length list) n) (list_all (λ task. nat_lt task n) list && list_all (stands_once list) (range_with_len 0 n))
    (eq-eqb (length list) n each.whole)
    (and_from (list_all (λ task. nat_lt task n) list) (list_all (stands_once list) (range_with_len 0 n))
    (list_all-from_AllPass (λ task. nat_lt task n) list (λ k d low. lt-ltb (get_or list k d) n (each.tasks k d low)))
    (list_all-from_AllPass (stands_once list) (range_with_len 0 n)
    (λ k d low.
    let size : length (range_with_len 0 n) ≡ n = length-range_with_len 0 n in
    let place : get_or (range_with_len 0 n) k d ≡ 0 + k = get_or-range_with_len 0 n k d (omega arith) in
    eq-eqb (times_in list (get_or (range_with_len 0 n) k d)) 1 (each.once (get_or (range_with_len 0 n) k d) (omega arith)))))

-- an order is one of as many tasks as it lists
pub order_from : (n : ℕ) (list : List ℕ) → n ≤ TASK_LIMIT → AreEachOnce n list → IsOrder list
order_from n list few each = record {
  few = omega (arith, each.whole);
  permutation = let IsOf : ℕ → Type 0 = λ m. is_order m list ≡ true in subst IsOf (sym each.whole) (is_order_from n list each);
}

-- the numbers in their own order
pub own_order : (n : ℕ) → AreEachOnce n (range_with_len 0 n)
own_order n = record {
  whole = length-range_with_len 0 n;
  tasks = λ k d low.
      let size : length (range_with_len 0 n) ≡ n = length-range_with_len 0 n in
      let place : get_or (range_with_len 0 n) k d ≡ 0 + k = get_or-range_with_len 0 n k d (omega arith) in
      omega arith;
  once = λ i low. once_inside i 0 n (omega arith) (omega arith);
}

pub permuted : (n : ℕ) (list moved : List ℕ) → IsPermutation list moved → AreEachOnce n list → AreEachOnce n moved
permuted n list moved moves each = record {
  whole = length_permutation list moved moves ∙ each.whole;
  tasks = All-permutation (λ task. task < n) list moved moves each.tasks;
  once = λ i low. sum_by-IsPermutation (λ other. one_if (nat_eq other i)) list moved moves ∙ each.once i low;
}

-- ---- what stands before

never_counted : (p : ℕ → Bool) (list : List ℕ) → list_any p list ≡ false → count_by p list ≡ 0
never_counted p [] none = refl
never_counted p (x ∷ list) none =
    let (here, later) = or_parts (p x) (list_any p list) none in
    let this : one_if (p x) ≡ 0 = ap one_if here in
    omega (arith, sum_by-cons (λ other. one_if (p other)) x list, never_counted p list later, this)

-- each task of an order stands in it
pub stands_in : (n : ℕ) (order : List ℕ) → AreEachOnce n order → (task : ℕ) → task < n → list_any (λ other. nat_eq other task) order ≡ false → ⊥
stands_in n order each task low none =
    omega (arith, never_counted (λ other. nat_eq other task) order none, each.once task low)

ltb_suc : (a b : ℕ) → nat_lt (1 + a) (suc b) ≡ nat_lt a b
ltb_suc a b =
    elim (cases_lt a b) [
      | inl low ↦ lt-ltb (1 + a) (suc b) (omega arith) ∙ sym (lt-ltb a b low)
      | inr high ↦ le-ltb (1 + a) (suc b) (omega arith) ∙ sym (le-ltb a b high)
    ]

-- the first place at which a test passes is before k where it passes among the first k
first_place : (p : ℕ → Bool) (list : List ℕ) (k : ℕ) → k ≤ length list → nat_lt (position_or_len p list) k ≡ list_any p (take k list)
first_place p list zero within = le-ltb (position_or_len p list) 0 (omega arith)
first_place p [] (suc k) within = absurd (omega arith)
first_place p (x ∷ list) (suc k) within = by_flag (p x) refl (first_place p list k (omega arith))
  where
    by_flag : (b : Bool) → p x ≡ b → nat_lt (position_or_len p list) k ≡ list_any p (take k list) → nat_lt (position_or_len p (x ∷ list)) (suc k) ≡ (p x || list_any p (take k list))
    by_flag true e later = rw (e, lt-ltb 0 (suc k) (omega arith)) refl
    by_flag false e later = rw e (ltb_suc (position_or_len p list) k ∙ later)

-- the place of a task is the first at which it stands
place_is : (order : List ℕ) (task k : ℕ) → k < length order → get_or order k 0 ≡ task → list_any (λ other. nat_eq other task) (take k order) ≡ false → place order task ≡ k
place_is order task k low here none =
    let p : ℕ → Bool = λ other. nat_eq other task in
    let not_before : nat_lt (place order task) k ≡ false = first_place p order k (omega arith) ∙ none in
    let by_then : nat_lt (place order task) (k + 1) ≡ true =
    first_place p order (k + 1) (omega arith) ∙ list_any_more p order k 0 low ∙ ap (λ b. b || nat_eq (get_or order k 0) task) none ∙ eq-eqb (get_or order k 0) task here in
    omega (arith, ltb-false (place order task) k not_before, ltb-true (place order task) (k + 1) by_then)

-- at the place of the task, those passed are those that stand before it
pub before_is_above : (order : List ℕ) (task k : ℕ) → k < length order → get_or order k 0 ≡ task → list_any (λ other. nat_eq other task) (take k order) ≡ false →
    (i : ℕ) → list_any (λ other. nat_eq other i) (take k order) ≡ is_above order task i
before_is_above order task k low here none i =
    sym (first_place (λ other. nat_eq other i) order k (omega arith)) ∙ ap (λ m. nat_lt (place order i) m) (sym (place_is order task k low here none))

-- ---- places

some_counted : (p : ℕ → Bool) (list : List ℕ) → list_any p list ≡ true → 1 ≤ count_by p list
some_counted p [] some = absurd (both_ways false refl some)
some_counted p (x ∷ list) some = by_flag (p x) refl (some_counted p list)
  where
    by_flag : (b : Bool) → p x ≡ b → (list_any p list ≡ true → 1 ≤ count_by p list) → 1 ≤ count_by p (x ∷ list)
    by_flag true e later = omega (arith, sum_by-cons (λ other. one_if (p other)) x list, ap one_if e)
    by_flag false e later =
        let rest : list_any p list ≡ true = rw e at some in
        omega (arith, sum_by-cons (λ other. one_if (p other)) x list, ap one_if e, later rest)

module _ (n : ℕ) (order : List ℕ) (each : AreEachOnce n order) where
  place_within : (task : ℕ) → task < n → place order task < n
  place_within task low =
      let p : ℕ → Bool = λ other. nat_eq other task in
      elim (cases_lt (place order task) n) [
        | inl within ↦ within
        | inr past ↦
            let none : list_any p (take n order) ≡ false = sym (first_place p order n (omega (arith, each.whole))) ∙ le-ltb (place order task) n past in
            let nowhere : list_any p order ≡ false = ap (list_any p) (sym (take_all n order (omega (arith, each.whole)))) ∙ none in
            absurd (stands_in n order each task low nowhere)
      ]

  no_earlier : (k : ℕ) → k < n → list_any (λ other. nat_eq other (get_or order k 0)) (take k order) ≡ false
  no_earlier k low =
      let task : ℕ = get_or order k 0 in
      let p : ℕ → Bool = λ other. nat_eq other task in
      let within : k < length order = omega (arith, each.whole) in
      elim (cases_Bool (list_any p (take k order))) [
        | inl earlier ↦
            absurd (omega (arith, some_counted p (take k order) earlier, count_by_more_yes p order k 0 within (eq-eqb task task refl), sum_by-take-le (λ other. one_if (p other)) order (k + 1), each.once task (each.tasks k 0 within)))
        | inr none ↦ none
      ]

  pub places : HasPlaces n order
  places = record {
    length_is = each.whole;
    place_below = place_within;
    task_at_place = λ task low. eqb-true (get_or order (place order task) 0) task (passes_at_first (λ other. nat_eq other task) order 0 (omega (arith, each.whole, place_within task low)));
    task_below = λ k low. each.tasks k 0 (omega (arith, each.whole));
    place_of_task = λ k low. place_is order (get_or order k 0) k (omega (arith, each.whole)) refl (no_earlier k low);
  }
