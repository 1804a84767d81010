-- The steps of the greedy on an order whose last places are filled.
use Rattle.std.proofs.Common.{◌≡◌, ℕ, suc, ◌+◌, ◌-◌, ◌<◌, ◌≤◌, Bool, true, false, not, ◌&&◌, nat_lt, nat_eq, List, [], ◌∷◌, length, length-drop, drop, drop-cons, get_or, set as written, swap, refl, ap, ap₂, sym, ◌∙◌, arith, ⊎_elim}
use Rattle.std.proofs.Math.Path.{fun_ext}
use Rattle.std.proofs.lemmas.List.{nil_from_length, drop-set-lt}
use Rattle.std.proofs.lemmas.List.Edits.{Swapped, swapped_from_swap, swap_is}
use Rattle.std.proofs.lemmas.List.FromFn.{fill_by_all}
use Rattle.std.proofs.lemmas.List.Sorted.{IsPermutation-swap}
use Rattle.std.proofs.lemmas.Bool.{cases_eq, cases_lt, ltb-true, lt-ltb, eq-eqb, ne_eqb}
use Rattle.prta_sheet.specs.declared.limits.TheConstants.{TASK_LIMIT}
use Rattle.prta_sheet.specs.Machine.{place}
use Rattle.prta_jobs.specs.TaskSet.{holds}
use Rattle.prta_jobs.specs.Permutation.{is_order}
use Rattle.prta_jobs.specs.Laws.{HasPlaces}
use Rattle.prta_jobs.proofs.OrderLists.{each_once, is_order_from, permuted, places}
use Rattle.prta_audsley.specs.Greedy.{is_among, Through, Stuck, greedy, greedy_over}
use Rattle.prta_audsley.specs.Verdict.{other_tasks, set_of}
use Rattle.prta_audsley.specs.Placing.{tasks_in, IsSetOf, Fails, IsFirst}
use Rattle.prta_audsley.proofs.GreedyLoop.{with_below, among_in, set_found, set_stuck, set_start}

-- the last places of the order are filled, the others hold the unplaced tasks, and the greedy goes on with these
pub record IsPlacing (passes : (ℕ → Bool) → ℕ → Bool) (n placed : ℕ) (set : List Bool) (order : List ℕ) : Type 0 where
  pub permutation : is_order n order ≡ true
  pub unplaced : IsSetOf n set
  pub free : (k : ℕ) → k < n - placed → holds set (get_or order k 0) ≡ true
  pub filled : (k : ℕ) → n - placed ≤ k → k < n → holds set (get_or order k 0) ≡ false
  pub outcome : with_below (drop (n - placed) order) (greedy passes (n - placed) (tasks_in n (holds set))) ≡ greedy_over passes n

-- ---- orders

-- exchanging two tasks of an order leaves an order
swapped_order : (n : ℕ) (order moved : List ℕ) (i j : ℕ) → is_order n order ≡ true → i < n → j < n → moved ≡ swap order i j → is_order n moved ≡ true
swapped_order n order moved i j is low high e =
    let each = each_once n order is in
    is_order_from n moved (permuted n order moved (IsPermutation-swap order moved i j (omega (arith, each.whole)) (omega (arith, each.whole)) e) each)

module _ (passes : (ℕ → Bool) → ℕ → Bool) (n : ℕ) where
  -- ---- the start

  pub placing_starts : (set : List Bool) (order : List ℕ) → is_order n order ≡ true → n ≤ TASK_LIMIT → length set ≡ TASK_LIMIT → ((i : ℕ) → holds set i ≡ nat_lt i n) → IsPlacing passes n 0 set order
  placing_starts set order is few flags members =
      let at : HasPlaces n order = places n order (each_once n order is) in
      let none : drop n order ≡ [] = nil_from_length (drop n order) (omega (arith, length-drop n order, at.length_is)) in
      let all : holds set ≡ (λ i. nat_lt i n) = fun_ext members in
      let whole : n - 0 ≡ n = omega arith in
      record {
        permutation = is;
        unplaced = record { flags = flags; listed = λ i held. ltb-true i n (sym (members i) ∙ held) };
        free = λ k low. members (get_or order k 0) ∙ lt-ltb (get_or order k 0) n (at.task_below k (omega arith));
        filled = λ k high low. absurd (omega arith);
        outcome =
            ap (λ m. with_below (drop m order) (greedy passes m (tasks_in n (holds set)))) whole
            ∙ ap₂ (λ (rest : List ℕ) (tasks : ℕ → Bool). with_below rest (greedy passes n (tasks_in n tasks))) none all
            ∙ set_start passes n;
      }

  -- ---- a task is placed

  module _ (placed : ℕ) (set : List Bool) (order : List ℕ) (is : IsPlacing passes n placed set order) (low : placed < n) where
    abbrev k : ℕ
    k = n - 1 - placed

    left : n - placed ≡ suc k
    left = omega arith

    at : HasPlaces n order
    at = places n order (each_once n order is.permutation)

    pub last_free : k < length order
    last_free = omega (arith, at.length_is)

    module _ (task : ℕ) (first : IsFirst passes n set task) where
      abbrev i : ℕ
      i = place order task

      task_at : get_or order i 0 ≡ task
      task_at = at.task_at_place task first.listed

      pub place_within : i < length order
      place_within = omega (arith, at.place_below task first.listed, at.length_is)

      place_free : i ≤ k
      place_free = ⊎_elim
          (λ (beyond : k < i).
          let gone : holds set task ≡ false = ap (holds set) (sym task_at) ∙ is.filled i (omega arith) (at.place_below task first.listed) in
          let held : holds set task ≡ true = first.held in absurd (cc))
          (λ (within : i ≤ k). within)
          (cases_lt k i)

      -- another place has another task
      other_task : (m : ℕ) → m < n → (m ≡ i → ⊥) → nat_eq (get_or order m 0) task ≡ false
      other_task m inside differ = ne_eqb (get_or order m 0) task (λ e. differ (sym (at.place_of_task m inside) ∙ ap (place order) e))

      module _ (moved : List ℕ) (e : moved ≡ swap order i k) (rest : List Bool) (flags : length rest ≡ TASK_LIMIT) (members : (j : ℕ) → holds rest j ≡ (not (nat_eq j task) && holds set j)) where
        exchanged : Swapped (λ m. get_or order m 0) (λ m. get_or moved m 0) i k
        exchanged = swapped_from_swap order moved i k 0 place_within last_free e

        -- a task that isn't the placed one is left as it was
        stays : (m : ℕ) (b : Bool) → nat_eq m task ≡ false → holds set m ≡ b → holds rest m ≡ b
        stays m b other held = members m ∙ ap (λ c. not c && holds set m) other ∙ held

        free_rest : (m : ℕ) → m < k → holds rest (get_or moved m 0) ≡ true
        free_rest m inside = ⊎_elim
            (λ (here : m ≡ i).
            let from_end : get_or moved m 0 ≡ get_or order k 0 = ap (λ j. get_or moved j 0) here ∙ exchanged.0 in
            ap (holds rest) from_end ∙ stays (get_or order k 0) true (other_task k (omega arith) (λ same. omega arith)) (is.free k (omega arith)))
            (λ (differ : m ≡ i → ⊥).
            let same : get_or moved m 0 ≡ get_or order m 0 = exchanged.2 m differ (λ end. omega arith) in
            ap (holds rest) same ∙ stays (get_or order m 0) true (other_task m (omega arith) differ) (is.free m (omega arith)))
            (cases_eq m i)

        filled_rest : (m : ℕ) → k ≤ m → m < n → holds rest (get_or moved m 0) ≡ false
        filled_rest m from inside = ⊎_elim
            (λ (here : m ≡ k).
            let now : get_or moved m 0 ≡ task = ap (λ j. get_or moved j 0) here ∙ exchanged.1 ∙ task_at in
            ap (holds rest) now ∙ members task ∙ ap (λ b. not b && holds set task) (eq-eqb task task refl))
            (λ (differ : m ≡ k → ⊥).
            let free : i ≤ k = place_free in
            let same : get_or moved m 0 ≡ get_or order m 0 = exchanged.2 m (λ it. omega arith) differ in
            ap (holds rest) same ∙ stays (get_or order m 0) false (other_task m inside (λ it. omega arith)) (is.filled m (omega arith) inside))
            (cases_eq m k)

        rest_is : drop k moved ≡ task ∷ drop (suc k) order
        rest_is =
            let size : length moved ≡ length order = (each_once n moved (swapped_order n order moved i k is.permutation (at.place_below task first.listed) (omega arith) e)).whole ∙ sym at.length_is in
            let free : i ≤ k = place_free in
            let after : drop (suc k) moved ≡ drop (suc k) order =
            ap (drop (suc k)) (e ∙ sym (swap_is order i k 0 place_within last_free))
            ∙ drop-set-lt (suc k) (written order i (get_or order k 0)) k (get_or order i 0) (omega arith)
            ∙ drop-set-lt (suc k) order i (get_or order k 0) (omega arith) in
            drop-cons moved k 0 (omega (arith, last_free, size)) ∙ ap₂ (λ (x : ℕ) (xs : List ℕ). x ∷ xs) (exchanged.1 ∙ task_at) after

        pub placing_more : IsPlacing passes n (placed + 1) rest moved
        placing_more =
            let on : n - (placed + 1) ≡ k = omega arith in
            let others : holds rest ≡ other_tasks set task = fun_ext members in
            let now : with_below (drop (suc k) order) (greedy passes (suc k) (tasks_in n (holds set))) ≡ with_below (task ∷ drop (suc k) order) (greedy passes k (tasks_in n (other_tasks set task))) =
            set_found passes n (holds set) is.unplaced.listed k (drop (suc k) order) task first.held first.passing first.earlier in
            record {
              permutation = swapped_order n order moved i k is.permutation (at.place_below task first.listed) (omega arith) e;
              unplaced = record { flags = flags; listed = λ j held. is.unplaced.listed j (second (not (nat_eq j task)) (holds set j) (sym (members j) ∙ held)) };
              free = λ m inside. free_rest m (omega arith);
              filled = λ m from inside. filled_rest m (omega arith) inside;
              outcome =
                  ap (λ m. with_below (drop m moved) (greedy passes m (tasks_in n (holds rest)))) on
                  ∙ ap₂ (λ (xs : List ℕ) (tasks : ℕ → Bool). with_below xs (greedy passes k (tasks_in n tasks))) rest_is others
                  ∙ sym now
                  ∙ sym (ap (λ m. with_below (drop m order) (greedy passes m (tasks_in n (holds set)))) left)
                  ∙ is.outcome;
            }
          where
            second : (a b : Bool) → (a && b) ≡ true → b ≡ true
            second true b h = h
            second false b h = cc

    -- ---- none passes

    pub placing_stops : ((i : ℕ) → i < n → Fails passes set i) → Stuck (tasks_in n (holds set)) ≡ greedy_over passes n
    placing_stops none =
        sym (set_stuck passes n (holds set) is.unplaced.listed k (drop (suc k) order) (λ i held. none i (is.unplaced.listed i held) held))
        ∙ sym (ap (λ m. with_below (drop m order) (greedy passes m (tasks_in n (holds set)))) left)
        ∙ is.outcome

  -- ---- all places are filled

  pub placing_ends : (placed : ℕ) (set : List Bool) (order : List ℕ) → IsPlacing passes n placed set order → n ≤ placed → Through order ≡ greedy_over passes n
  placing_ends placed set order is all =
      let none : n - placed ≡ 0 = omega arith in
      sym (ap (λ m. with_below (drop m order) (greedy passes m (tasks_in n (holds set)))) none) ∙ is.outcome

-- ---- the set of the unplaced tasks is that of their list

pub same_set : (n : ℕ) (set : List Bool) → IsSetOf n set → set_of (tasks_in n (holds set)) ≡ set
same_set n set is =
    sym (fill_by_all (is_among (tasks_in n (holds set))) set TASK_LIMIT false is.flags (λ i low. sym (among_in n (holds set) is.listed i)))
