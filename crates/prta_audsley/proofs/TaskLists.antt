-- Lists of tasks as sets, and the places of tasks in a list.
use Rattle.std.proofs.Common.{◌≡◌, ◌≢◌, ℕ, zero, suc, ◌+◌, ◌≤◌, ◌<◌, Bool, true, false, cond, not, ◌&&◌, ◌||◌, nat_le, nat_lt, nat_eq, if◌then◌else◌, List, [], ◌∷◌, ◌++◌, filter, length, refl, ap, sym, ◌∙◌, subst, arith, ⊎_elim}
use Rattle.std.proofs.Math.Path.{fun_ext}
use Rattle.std.specs.List.{AllByRecursion as Each, range_with_len}
use Rattle.std.proofs.lemmas.List.Sums.{sum_by-cons}
use Rattle.std.proofs.lemmas.Bool.{cond_both, cond-true, cond-false, cases_eq, eqb-true, eq-eqb, ne_eqb, ltb-true, leb-true, lt-ltb, le-ltb, and_parts, and_from, or_cases, or_left, or_right, not_from_true}
use Rattle.std.proofs.lemmas.Bool.Decides.{nat_tests}
use Rattle.prta_sheet.specs.Machine.{place}
use Rattle.prta_sheet.specs.Weights.{one_if}
use Rattle.prta_sheet.proofs.Each.{Each-weaker}
use Rattle.prta_jobs.specs.Permutation.{is_above}
use Rattle.prta_jobs.proofs.OrderLists.{times_in}
use Rattle.prta_ticksim.proofs.Each.{Pairs}
use Rattle.prta_audsley.specs.Greedy.{is_among, others}

abbrev pub Differ : ℕ → ℕ → Type 0
Differ a b = a ≢ b

pub Each_among : (P : ℕ → Type 0) (xs : List ℕ) (i : ℕ) → Each P xs → is_among xs i ≡ true → P i
Each_among P [] i h e = cc
Each_among P (x ∷ xs) i h e = ⊎_elim
    (λ (here : nat_eq x i ≡ true). subst P (eqb-true x i here) h.0)
    (λ (there : is_among xs i ≡ true). Each_among P xs i h.1 there)
    (or_cases (nat_eq x i) (is_among xs i) e)

pub Each_from_among : (P : ℕ → Type 0) (xs : List ℕ) → ((i : ℕ) → is_among xs i ≡ true → P i) → Each P xs
Each_from_among P [] f = tt
Each_from_among P (x ∷ xs) f = (f x (or_left (nat_eq x x) (is_among xs x) (eq-eqb x x refl)), Each_from_among P xs (λ i e. f i (or_right (nat_eq x i) (is_among xs i) e)))

pub among-filter : (p : ℕ → Bool) (xs : List ℕ) (i : ℕ) → is_among (filter p xs) i ≡ (is_among xs i && p i)
among-filter p [] i = refl
among-filter p (x ∷ xs) i =
    let ih : is_among (filter p xs) i ≡ (is_among xs i && p i) = among-filter p xs i in
    ⊎_elim
    (λ (same : x ≡ i).
    let yes : nat_eq x i ≡ true = eq-eqb x i same in
    let px : p x ≡ p i = ap p same in
    cond_both (p x) (x ∷ filter p xs) (filter p xs) (λ ys. is_among ys i ≡ ((nat_eq x i || is_among xs i) && p i))
    (λ e. or_left (nat_eq x i) (is_among (filter p xs) i) yes ∙ sym (and_from (nat_eq x i || is_among xs i) (p i) (or_left (nat_eq x i) (is_among xs i) yes) (sym px ∙ e)))
    (λ e. ih ∙ none (is_among xs i) (nat_eq x i || is_among xs i) (p i) (sym px ∙ e)))
    (λ (other : x ≡ i → ⊥).
    let no : nat_eq x i ≡ false = ne_eqb x i other in
    rw no (cond_both (p x) (x ∷ filter p xs) (filter p xs) (λ ys. is_among ys i ≡ (is_among xs i && p i))
    (λ e. ap (λ b. b || is_among (filter p xs) i) no ∙ ih)
    (λ e. ih)))
    (cases_eq x i)
  where
    none : (a b c : Bool) → c ≡ false → (a && c) ≡ (b && c)
    none a b c e = rw e (elim a as (λ a. (a && false) ≡ (b && false)) [ true ↦ elim b as (λ b. false ≡ (b && false)) [ true ↦ refl | false ↦ refl ] | false ↦ elim b as (λ b. false ≡ (b && false)) [ true ↦ refl | false ↦ refl ] ])

-- the others of a list
pub among_others : (xs : List ℕ) (t i : ℕ) → others xs t i ≡ true → (is_among xs i ≡ true) × (i ≡ t → ⊥)
among_others xs t i e =
    let both : (is_among xs i ≡ true) × (not (nat_eq i t) ≡ true) = and_parts (is_among xs i) (not (nat_eq i t)) (sym (among-filter (λ i. not (nat_eq i t)) xs i) ∙ e) in
    (both.0, λ same. let no : not (nat_eq i t) ≡ false = not_from_true (nat_eq i t) (eq-eqb i t same) in let yes : not (nat_eq i t) ≡ true = both.1 in cc)

-- one of a list is there
pub among_self : (x : ℕ) (xs : List ℕ) → is_among (x ∷ xs) x ≡ true
among_self x xs = or_left (nat_eq x x) (is_among xs x) (eq-eqb x x refl)

-- ---- how often a task stands in a list without repetition

none_differ : (xs : List ℕ) (i : ℕ) → Each (Differ i) xs → times_in xs i ≡ 0
none_differ [] i d = refl
none_differ (x ∷ xs) i d = omega (arith, sum_by-cons (λ other. one_if (nat_eq other i)) x xs, ap one_if (ne_eqb x i (λ e. d.0 (sym e))), none_differ xs i d.1)

pub once_among : (xs : List ℕ) (i : ℕ) → Pairs Differ xs → is_among xs i ≡ true → times_in xs i ≡ 1
once_among [] i d e = cc
once_among (x ∷ xs) i d e = ⊎_elim
    (λ (same : x ≡ i).
    let rest : times_in xs i ≡ 0 = none_differ xs i (subst (λ k. Each (Differ k) xs) same d.0) in
    omega (arith, sum_by-cons (λ other. one_if (nat_eq other i)) x xs, ap one_if (eq-eqb x i same), rest))
    (λ (other : x ≡ i → ⊥).
    let no : nat_eq x i ≡ false = ne_eqb x i other in
    let later : is_among xs i ≡ true = sym (ap (λ b. b || is_among xs i) no) ∙ e in
    omega (arith, sum_by-cons (λ other. one_if (nat_eq other i)) x xs, ap one_if no, once_among xs i d.1 later))
    (cases_eq x i)

-- ---- places

pub place_cons : (x a : ℕ) (xs : List ℕ) → place (x ∷ xs) a ≡ cond (nat_eq x a) 0 (1 + place xs a)
place_cons x a xs = elim (nat_eq x a) as (λ b. cond (not b) (1 + place xs a) 0 ≡ cond b 0 (1 + place xs a)) [ true ↦ refl | false ↦ refl ]

-- the first place of a task is that after a list without it
pub place_own : (above below : List ℕ) (own : ℕ) → Each (λ k. Differ k own) above → place (above ++ own ∷ below) own ≡ length above
place_own [] below own h = rw (place_cons own own below, eq-eqb own own refl)
place_own (x ∷ xs) below own h = rw (place_cons x own (xs ++ own ∷ below), ne_eqb x own h.0) (omega (arith, place_own xs below own h.1))

-- a place before the end
pub place-among : (xs : List ℕ) (i : ℕ) → nat_lt (place xs i) (length xs) ≡ is_among xs i
place-among [] i = refl
place-among (x ∷ xs) i = ⊎_elim
    (λ (same : x ≡ i).
    let yes : nat_eq x i ≡ true = eq-eqb x i same in
    rw (place_cons x i xs, yes) (lt-ltb 0 (suc (length xs)) (omega arith)))
    (λ (other : x ≡ i → ⊥).
    let no : nat_eq x i ≡ false = ne_eqb x i other in
    rw (place_cons x i xs, no) (further (place xs i) (length xs) ∙ place-among xs i))
    (cases_eq x i)
  where
    further : (p n : ℕ) → nat_lt (1 + p) (suc n) ≡ nat_lt p n
    further p n = grind (arith, nat_tests)

pub place_le : (xs : List ℕ) (i : ℕ) → place xs i ≤ length xs
place_le [] i = omega arith
place_le (x ∷ xs) i = rw (place_cons x i xs) (cond_both (nat_eq x i) 0 (1 + place xs i) (λ p. p ≤ suc (length xs)) (λ e. omega arith) (λ e. omega (arith, place_le xs i)))

pub place-append : (xs ys : List ℕ) (i : ℕ) → place (xs ++ ys) i ≡ (if nat_lt (place xs i) (length xs) then place xs i else length xs + place ys i)
place-append [] ys i = sym (cond-false (nat_lt (place [] i) 0) (place [] i) (0 + place ys i) (le-ltb (place [] i) 0 (omega arith)) ∙ omega arith)
place-append (x ∷ xs) ys i = ⊎_elim
    (λ (same : x ≡ i).
    let yes : nat_eq x i ≡ true = eq-eqb x i same in
    rw (place_cons x i (xs ++ ys), place_cons x i xs, yes) (sym (cond-true (nat_lt 0 (suc (length xs))) 0 _ (lt-ltb 0 (suc (length xs)) (omega arith)))))
    (λ (other : x ≡ i → ⊥).
    let no : nat_eq x i ≡ false = ne_eqb x i other in
    rw (place_cons x i (xs ++ ys), place_cons x i xs, no) (ap (λ p. 1 + p) (place-append xs ys i) ∙ further (place xs i) (length xs) (place ys i)))
    (cases_eq x i)
  where
    further : (p n q : ℕ) → 1 + (if nat_lt p n then p else n + q) ≡ (if nat_lt (1 + p) (suc n) then 1 + p else suc n + q)
    further p n q = grind (arith, nat_tests)

-- what stands above a task of the first part doesn't depend on the second
pub above-append : (xs ys : List ℕ) (t : ℕ) → is_among xs t ≡ true → is_above (xs ++ ys) t ≡ is_above xs t
above-append xs ys t e = fun_ext (λ i.
    rw (place-append xs ys i, place-append xs ys t)
    (same (place xs i) (place xs t) (length xs) (place ys i) (place ys t) (place_le xs i) (ltb-true (place xs t) (length xs) (place-among xs t ∙ e))))
  where
    same : (p q n a b : ℕ) → p ≤ n → q < n → nat_lt (if nat_lt p n then p else n + a) (if nat_lt q n then q else n + b) ≡ nat_lt p q
    same p q n a b l h = grind (arith, nat_tests)

-- above the task that follows a list stands the list
pub above_last : (xs ys : List ℕ) (t : ℕ) → Each (λ k. Differ k t) xs → is_above (xs ++ t ∷ ys) t ≡ is_among xs
above_last xs ys t d = fun_ext (λ i.
    rw (place_own xs ys t d, place-append xs (t ∷ ys) i)
    (within (place xs i) (length xs) (place (t ∷ ys) i) ∙ place-among xs i))
  where
    within : (p n q : ℕ) → nat_lt (if nat_lt p n then p else n + q) n ≡ nat_lt p n
    within p n q = grind (arith, nat_tests)

-- ---- ranges of tasks

among-range : (a n i : ℕ) → is_among (range_with_len a n) i ≡ (nat_le a i && nat_lt i (a + n))
among-range a zero i = none a i
  where
    none : (a i : ℕ) → false ≡ (nat_le a i && nat_lt i (a + 0))
    none a i = grind (arith, nat_tests)
among-range a (suc n) i = ap (λ b. nat_eq a i || b) (among-range (a + 1) n i) ∙ more a n i
  where
    more : (a n i : ℕ) → (nat_eq a i || (nat_le (a + 1) i && nat_lt i (a + 1 + n))) ≡ (nat_le a i && nat_lt i (a + suc n))
    more a n i = grind (arith, nat_tests)

pub among_tasks : (n i : ℕ) → is_among (range_with_len 0 n) i ≡ nat_lt i n
among_tasks n i = among-range 0 n i ∙ from_zero i n
  where
    from_zero : (i n : ℕ) → (nat_le 0 i && nat_lt i (0 + n)) ≡ nat_lt i n
    from_zero i n = grind (arith, nat_tests)

pub range_above : (a n i : ℕ) → is_among (range_with_len (a + 1) n) i ≡ true → a < i
range_above a n i e =
    let h : (nat_le (a + 1) i ≡ true) × (nat_lt i (a + 1 + n) ≡ true) = and_parts (nat_le (a + 1) i) (nat_lt i (a + 1 + n)) (sym (among-range (a + 1) n i) ∙ e) in
    let l : a + 1 ≤ i = leb-true (a + 1) i h.0 in omega arith

pub range_sorted : (a n : ℕ) → Pairs (λ a b. a < b) (range_with_len a n)
range_sorted a zero = tt
range_sorted a (suc n) = (Each_from_among (λ b. a < b) (range_with_len (a + 1) n) (λ i e. range_above a n i e), range_sorted (a + 1) n)

sorted_differs : (xs : List ℕ) → Pairs (λ a b. a < b) xs → Pairs Differ xs
sorted_differs [] h = tt
sorted_differs (x ∷ xs) h = (Each-weaker (λ b. x < b) (Differ x) (λ b l q. omega arith) xs h.0, sorted_differs xs h.1)

pub range_differs : (a n : ℕ) → Pairs Differ (range_with_len a n)
range_differs a n = sorted_differs (range_with_len a n) (range_sorted a n)
