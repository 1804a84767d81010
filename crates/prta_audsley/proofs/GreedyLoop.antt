-- The greedy as a loop over the lowest free places: what is placed stands in a list, and the outcome of the rest is put above it.
use Rattle.std.proofs.Common.{◌≡◌, ℕ, suc, ◌<◌, Bool, true, false, not, ◌&&◌, ◌||◌, nat_lt, nat_eq, List, [], ◌∷◌, ◌++◌, filter, ap, sym, refl, ◌∙◌, ⊎_elim, append_assoc, append-nil}
use Rattle.std.proofs.Math.Path.{fun_ext}
use Rattle.std.specs.List.{range_with_len}
use Rattle.std.proofs.lemmas.Bool.{cond-true, cond-false, cases_Bool, cases_eq, eq-eqb, ne_eqb, lt-ltb, or_left, or_right, and_parts, and_from, and_right}
use Rattle.prta_sheet.proofs.Each.{filter_none}
use Rattle.prta_ticksim.proofs.Each.{Pairs, Pairs-filter, filter_all}
use Rattle.prta_audsley.specs.Greedy.{is_among, without, others, Outcome, Through, Stuck, with_lowest, place_first, greedy}
use Rattle.prta_audsley.specs.Placing.{tasks_in}
use Rattle.prta_audsley.proofs.Filters.{filter-filter}
use Rattle.prta_audsley.proofs.TaskLists.{Each_among, Each_from_among, among-filter, among_tasks, range_sorted}

-- the outcome of the unplaced tasks, above those that are placed
abbrev pub with_below : List ℕ → Outcome → Outcome
with_below placed (Through order) = Through (order ++ placed)
with_below placed (Stuck left) = Stuck left

pub with_below_more : (t : ℕ) (placed : List ℕ) (out : Outcome) → with_below placed (with_lowest t out) ≡ with_below (t ∷ placed) out
with_below_more t placed (Through order) = ap Through (append_assoc order (t ∷ []) placed)
with_below_more t placed (Stuck left) = refl

-- the first that passes, of a list in sheet order
pub first_found : (f : ℕ → Bool) (xs : List ℕ) (t : ℕ) → Pairs (λ a b. a < b) xs → is_among xs t ≡ true → f t ≡ true → ((i : ℕ) → i < t → is_among xs i ≡ true → f i ≡ false) →
    (ts : List ℕ) × (filter f xs ≡ t ∷ ts)
first_found f [] t sorted e p earlier = cc
first_found f (x ∷ xs) t sorted e p earlier = ⊎_elim
    (λ (same : x ≡ t). (filter f xs, cond-true (f x) (x ∷ filter f xs) (filter f xs) (ap f same ∙ p) ∙ ap (λ k. k ∷ filter f xs) same))
    (λ (other : x ≡ t → ⊥).
    let no : nat_eq x t ≡ false = ne_eqb x t other in
    let there : is_among xs t ≡ true = or_false (nat_eq x t) (is_among xs t) no e in
    let less : x < t = Each_among (λ k. x < k) xs t sorted.0 there in
    let fails : f x ≡ false = earlier x less (or_left (nat_eq x x) (is_among xs x) (eq-eqb x x refl)) in
    let rest : (ts : List ℕ) × (filter f xs ≡ t ∷ ts) = first_found f xs t sorted.1 there p (λ i l a. earlier i l (or_right (nat_eq x i) (is_among xs i) a)) in
    (rest.0, cond-false (f x) (x ∷ filter f xs) (filter f xs) fails ∙ rest.1))
    (cases_eq x t)
  where
    or_false : (a b : Bool) → a ≡ false → (a || b) ≡ true → b ≡ true
    or_false true b n e = cc
    or_false false b n e = e

module _ (passes : (ℕ → Bool) → ℕ → Bool) (n : ℕ) (unplaced placed : List ℕ) where
  -- a step of the loop
  pub greedy_found : (t : ℕ) → Pairs (λ a b. a < b) unplaced → is_among unplaced t ≡ true → passes (others unplaced t) t ≡ true →
      ((i : ℕ) → i < t → is_among unplaced i ≡ true → passes (others unplaced i) i ≡ false) →
      with_below placed (greedy passes (suc n) unplaced) ≡ with_below (t ∷ placed) (greedy passes n (without t unplaced))
  greedy_found t sorted e p earlier =
      let found : (ts : List ℕ) × (filter (λ t. passes (others unplaced t) t) unplaced ≡ t ∷ ts) = first_found (λ t. passes (others unplaced t) t) unplaced t sorted e p earlier in
      ap (λ ys. with_below placed (place_first unplaced (λ t. greedy passes n (without t unplaced)) ys)) found.1
      ∙ with_below_more t placed (greedy passes n (without t unplaced))

  -- the end where none passes
  pub greedy_stuck : ((i : ℕ) → is_among unplaced i ≡ true → passes (others unplaced i) i ≡ false) → with_below placed (greedy passes (suc n) unplaced) ≡ Stuck unplaced
  greedy_stuck none = ap (λ ys. with_below placed (place_first unplaced (λ t. greedy passes n (without t unplaced)) ys))
      (filter_none (λ t. passes (others unplaced t) t) unplaced (Each_from_among _ unplaced none))

-- ---- the same over a set of unplaced tasks, as a test

-- a set less one task
abbrev pub less : (ℕ → Bool) → ℕ → ℕ → Bool
less set t i = not (nat_eq i t) && set i

abbrev pub IsOnSheet : ℕ → (ℕ → Bool) → Type 0
IsOnSheet n set = (i : ℕ) → set i ≡ true → i < n

pub among_in : (n : ℕ) (set : ℕ → Bool) → IsOnSheet n set → (i : ℕ) → is_among (tasks_in n set) i ≡ set i
among_in n set on i =
    among-filter set (range_with_len 0 n) i ∙ ap (λ b. b && set i) (among_tasks n i)
    ∙ ⊎_elim (λ (yes : set i ≡ true). and_from (nat_lt i n) (set i) (lt-ltb i n (on i yes)) yes ∙ sym yes) (λ (no : set i ≡ false). and_right (nat_lt i n) (set i) no ∙ sym no) (cases_Bool (set i))

pub without_in : (n : ℕ) (set : ℕ → Bool) (t : ℕ) → without t (tasks_in n set) ≡ tasks_in n (less set t)
without_in n set t = filter-filter (λ i. not (nat_eq i t)) set (range_with_len 0 n)

pub less_on_sheet : (n : ℕ) (set : ℕ → Bool) (t : ℕ) → IsOnSheet n set → IsOnSheet n (less set t)
less_on_sheet n set t on i e = on i ((and_parts (not (nat_eq i t)) (set i) e).1)

pub others_in : (n : ℕ) (set : ℕ → Bool) (t : ℕ) → IsOnSheet n set → others (tasks_in n set) t ≡ less set t
others_in n set t on = fun_ext (λ i. ap (λ xs. is_among xs i) (without_in n set t) ∙ among_in n (less set t) (less_on_sheet n set t on) i)

module _ (passes : (ℕ → Bool) → ℕ → Bool) (n : ℕ) (set : ℕ → Bool) (on : IsOnSheet n set) (k : ℕ) (placed : List ℕ) where
  -- a step of the loop: t is the first task of the set that passes above the others
  pub set_found : (t : ℕ) → set t ≡ true → passes (less set t) t ≡ true → ((i : ℕ) → i < t → set i ≡ true → passes (less set i) i ≡ false) →
      with_below placed (greedy passes (suc k) (tasks_in n set)) ≡ with_below (t ∷ placed) (greedy passes k (tasks_in n (less set t)))
  set_found t in_set p earlier =
      greedy_found passes k (tasks_in n set) placed t (Pairs-filter set (λ a b. a < b) (range_with_len 0 n) (range_sorted 0 n))
      (among_in n set on t ∙ in_set)
      (ap (λ S. passes S t) (others_in n set t on) ∙ p)
      (λ i l e. ap (λ S. passes S i) (others_in n set i on) ∙ earlier i l (sym (among_in n set on i) ∙ e))
      ∙ ap (λ xs. with_below (t ∷ placed) (greedy passes k xs)) (without_in n set t)

  -- the end where none of the set passes
  pub set_stuck : ((i : ℕ) → set i ≡ true → passes (less set i) i ≡ false) → with_below placed (greedy passes (suc k) (tasks_in n set)) ≡ Stuck (tasks_in n set)
  set_stuck none = greedy_stuck passes k (tasks_in n set) placed (λ i e. ap (λ S. passes S i) (others_in n set i on) ∙ none i (sym (among_in n set on i) ∙ e))

-- the start of the loop: all tasks are unplaced
pub set_start : (passes : (ℕ → Bool) → ℕ → Bool) (n : ℕ) → with_below [] (greedy passes n (tasks_in n (λ i. nat_lt i n))) ≡ greedy passes n (range_with_len 0 n)
set_start passes n = ap (λ xs. with_below [] (greedy passes n xs)) all ∙ nothing_below (greedy passes n (range_with_len 0 n))
  where
    all : tasks_in n (λ i. nat_lt i n) ≡ range_with_len 0 n
    all = filter_all (λ i. nat_lt i n) (range_with_len 0 n) (Each_from_among (λ i. nat_lt i n ≡ true) (range_with_len 0 n) (λ i e. sym (among_tasks n i) ∙ e))

    nothing_below : (out : Outcome) → with_below [] out ≡ out
    nothing_below (Through order) = ap Through (append-nil order)
    nothing_below (Stuck left) = refl
