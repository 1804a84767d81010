-- Least common multiples.
use Rattle.std.proofs.Common.{◌≡◌, ℕ, zero, suc, ◌+◌, ◌-◌, ◌*◌, ◌/◌, ◌%◌, ◌<◌, ◌≤◌, Bool, true, false, nat_eq, List, [], ◌∷◌, length, get_or, slice_index_or, take, All, fold, refl, ap, sym, ◌∙◌, subst, arith, inl, inr}
use Rattle.std.specs.Int.{◌∣◌}
use Rattle.std.specs.List.{position_or_len, range_with_len, AllByRecursion as Each}
use Rattle.std.proofs.lemmas.List.Sums.{fails_before_first, passes_at_first, position_or_len_is, fold_more}
use Rattle.std.proofs.lemmas.List.FromFn.{get_or-range_with_len, length-range_with_len}
use Rattle.std.proofs.lemmas.List.Elements.{All-from_recursion, recursion_from_All, All-take}
use Rattle.std.proofs.lemmas.Bool.{cases_lt, eqb-true, eqb-false}
use Rattle.std.proofs.Math.Nat.{div-add-mod, mod-lt, mod_self, mul-mod_left, mul-div_cancel, add-mul-mod_self_right, dvd-mul_right, dvd-mul_right_of_dvd, dvd-add_iff_right, dvd_of_mod-eq-zero, mod-eq-zero_of_dvd, dvd_trans, dvd_refl, one-dvd, le_of_dvd}
use Rattle.prta_sheet.specs.Sheet.{Task, cycle_ticks, least_common_multiple, hyperperiod}
use Rattle.prta_sheet.specs.Laws.{HyperperiodIsLeast, CopiesHaveTheirTable}
use Rattle.prta_sheet.proofs.Each.{Each-weaker}

module _ (a b : ℕ) (some : 1 ≤ b) where
  abbrev divides : ℕ → Bool
  divides k = nat_eq (a * (1 + k) % b) 0

  abbrev counts : List ℕ
  counts = range_with_len 0 b

  abbrev place : ℕ
  place = position_or_len divides counts

  -- b divides none of the earlier multiples
  fails : (k : ℕ) → k < place → k < b → a * (1 + k) % b ≡ 0 → ⊥
  fails k low below h =
      let at : get_or counts k 0 ≡ 0 + k = get_or-range_with_len 0 b k 0 below in
      let same : 0 + k ≡ k = omega arith in
      let no : divides k ≡ false = ap divides (sym (at ∙ same)) ∙ fails_before_first divides counts k 0 low in
      eqb-false (a * (1 + k) % b) 0 no h

  -- b divides the b-th multiple
  last : a * (1 + (b - 1)) % b ≡ 0
  last = let all : 1 + (b - 1) ≡ b = omega arith in rw all (mul-mod_left a b)

  found : place < b
  found =
      elim (cases_lt place b) [
        | inl low ↦ low
        | inr past ↦ absurd (fails (b - 1) (omega arith) (omega arith) last)
      ]

  pub multiple_of_second : least_common_multiple a b % b ≡ 0
  multiple_of_second =
      let long : length counts ≡ b = length-range_with_len 0 b in
      let at : get_or counts place 0 ≡ 0 + place = get_or-range_with_len 0 b place 0 found in
      let same : 0 + place ≡ place = omega arith in
      let here : divides place ≡ true = ap divides (sym (at ∙ same)) ∙ passes_at_first divides counts 0 (let low : place < b = found in omega arith) in
      eqb-true (a * (1 + place) % b) 0 here

  -- it divides every common multiple of a and b
  pub divides_common : (m : ℕ) → a ∣ m → b ∣ m → least_common_multiple a b ∣ m
  divides_common m of_a of_b =
      let j : ℕ = m / a in
      let q : ℕ = j / (1 + place) in
      let r : ℕ = j % (1 + place) in
      let whole : m % a ≡ 0 = mod-eq-zero_of_dvd a of_a in
      let shares : m ≡ a * j = omega (arith, div-add-mod m a, whole) in
      let parts : j ≡ (1 + place) * q + r = sym (div-add-mod j (1 + place)) in
      let split : m ≡ a * (1 + place) * q + a * r = shares ∙ ap (λ i. a * i) parts ∙ omega arith in
      let rest : b ∣ a * r = (dvd-add_iff_right b (dvd-mul_right_of_dvd b (dvd_of_mod-eq-zero b multiple_of_second) q)).1 (subst (λ n. b ∣ n) split of_b) in
      let none : r ≡ 0 = no_rest r (mod-lt j (omega arith)) rest in
      let over : m ≡ a * (1 + place) * q = split ∙ ap (λ i. a * (1 + place) * q + a * i) none ∙ omega arith in
      subst (λ n. a * (1 + place) ∣ n) (sym over) (dvd-mul_right (a * (1 + place)) q)
    where
      no_rest : (r : ℕ) → r < 1 + place → b ∣ a * r → r ≡ 0
      no_rest zero low h = refl
      no_rest (suc k) low h =
          let next : a * suc k ≡ a * (1 + k) = ap (λ i. a * i) (omega arith) in
          let early : place < b = found in
          absurd (fails k (omega arith) (omega arith) (ap (λ n. n % b) (sym next) ∙ mod-eq-zero_of_dvd b h))

-- the first place at which b divides is the place of the least common multiple
pub multiple_at : (a b k : ℕ) → k < b → ((j : ℕ) → j < k → nat_eq (a * (1 + j) % b) 0 ≡ false) → a * (1 + k) % b ≡ 0 → least_common_multiple a b ≡ a * (1 + k)
multiple_at a b k low earlier here =
    let divides : ℕ → Bool = λ k. nat_eq (a * (1 + k) % b) 0 in
    let counts : List ℕ = range_with_len 0 b in
    let long : length counts ≡ b = length-range_with_len 0 b in
    let at : (j : ℕ) → j < b → get_or counts j 0 ≡ j = λ j below. get_or-range_with_len 0 b j 0 below ∙ omega arith in
    let before : (j : ℕ) → j < k → divides (get_or counts j 0) ≡ false = λ j below. rw (at j (omega arith)) (earlier j below) in
    let there : k < length counts → divides (get_or counts k 0) ≡ true = λ below. rw (at k low, here) refl in
    let place : position_or_len divides counts ≡ k = position_or_len_is divides counts k 0 (omega arith) before there in
    ap (λ n. a * (1 + n)) place

-- b divides its own multiple, so a place is always found
pub never_past : (a b : ℕ) → 1 ≤ b → ((j : ℕ) → j < b → nat_eq (a * (1 + j) % b) 0 ≡ false) → ⊥
never_past a b some fails = eqb-false (a * (1 + (b - 1)) % b) 0 (fails (b - 1) (omega arith)) (last a b some)

positive : (a b : ℕ) → 1 ≤ a → 1 ≤ least_common_multiple a b
positive a b some = above (position_or_len (λ k. nat_eq (a * (1 + k) % b) 0) (range_with_len 0 b))
  where
    above : (p : ℕ) → 1 ≤ a * (1 + p)
    above p = omega arith

pub second_within : (a b : ℕ) → 1 ≤ a → 1 ≤ b → b ≤ least_common_multiple a b
second_within a b some ticks = le_of_dvd (positive a b some) (dvd_of_mod-eq-zero b (multiple_of_second a b ticks))

-- a number, for a start and the ticks of the tasks' cycles: a positive multiple of both that divides every such one
record IsJoint (start : ℕ) (tasks : List Task) (n : ℕ) : Type 0 where
  positive : 1 ≤ n
  of_start : start ∣ n
  of_ticks : Each (λ task. cycle_ticks task ∣ n) tasks
  divides_all : (m : ℕ) → start ∣ m → Each (λ task. cycle_ticks task ∣ m) tasks → n ∣ m

joint : (start : ℕ) (tasks : List Task) → 1 ≤ start → Each (λ task. 1 ≤ cycle_ticks task) tasks →
    IsJoint start tasks (fold (λ a task. least_common_multiple a (cycle_ticks task)) start tasks)
joint start [] some each = record { positive = some; of_start = dvd_refl start; of_ticks = tt; divides_all = λ m h e. h }
joint start (task ∷ tasks) some each =
    let rest = joint (least_common_multiple start (cycle_ticks task)) tasks (positive start (cycle_ticks task) some) each.1 in
    record {
      positive = rest.positive;
      of_start = dvd_trans start (dvd-mul_right start (1 + place start (cycle_ticks task) each.0)) rest.of_start;
      of_ticks = (dvd_trans (cycle_ticks task) (dvd_of_mod-eq-zero (cycle_ticks task) (multiple_of_second start (cycle_ticks task) each.0)) rest.of_start, rest.of_ticks);
      divides_all = λ m h e. rest.divides_all m (divides_common start (cycle_ticks task) each.0 m h e.0) e.1;
    }

pub hyperperiod_is_least : HyperperiodIsLeast
hyperperiod_is_least tasks some =
    let h = joint 1 tasks (omega arith) (recursion_from_All (λ task. 1 ≤ cycle_ticks task) tasks some) in
    record {
      positive = h.positive;
      multiple = All-from_recursion (λ task. hyperperiod tasks % cycle_ticks task ≡ 0) tasks
          (Each-weaker (λ task. cycle_ticks task ∣ hyperperiod tasks) _ (λ task e. mod-eq-zero_of_dvd (cycle_ticks task) e) tasks h.of_ticks);
      least = λ m positive e.
          le_of_dvd positive (h.divides_all m (one-dvd m)
          (Each-weaker (λ task. m % cycle_ticks task ≡ 0) _ (λ task z. dvd_of_mod-eq-zero (cycle_ticks task) z) tasks (recursion_from_All (λ task. m % cycle_ticks task ≡ 0) tasks e)));
    }

-- the hyperperiod of the first tasks is at most that of all
pub hyperperiod_of_fewer : (tasks : List Task) (n : ℕ) → All (λ task. 1 ≤ cycle_ticks task) tasks → hyperperiod (take n tasks) ≤ hyperperiod tasks
hyperperiod_of_fewer tasks n some =
    let all = hyperperiod_is_least tasks some in
    let fewer = hyperperiod_is_least (take n tasks) (All-take (λ task. 1 ≤ cycle_ticks task) n tasks some) in
    fewer.least (hyperperiod tasks) all.positive (All-take (λ task. hyperperiod tasks % cycle_ticks task ≡ 0) n tasks all.multiple)

-- one task more
pub hyperperiod_more : (tasks : List Task) (i : ℕ) (d : Task) → i < length tasks →
    hyperperiod (take (i + 1) tasks) ≡ least_common_multiple (hyperperiod (take i tasks)) (cycle_ticks (get_or tasks i d))
hyperperiod_more tasks i d low = fold_more (λ a task. least_common_multiple a (cycle_ticks task)) 1 tasks i d low

pub hyperperiod_of_one : (task : Task) → 1 ≤ cycle_ticks task → hyperperiod (task ∷ []) ≡ cycle_ticks task
hyperperiod_of_one task some =
    let is = hyperperiod_is_least (task ∷ []) (All-from_recursion (λ task. 1 ≤ cycle_ticks task) (task ∷ []) (some, tt)) in
    let own = is.least (cycle_ticks task) some (All-from_recursion (λ (t : Task). cycle_ticks task % cycle_ticks t ≡ 0) (task ∷ []) (mod_self (cycle_ticks task), tt)) in
    omega (arith, own, le_of_dvd is.positive (dvd_of_mod-eq-zero (cycle_ticks task) (is.multiple 0 task (omega arith))))

-- each task releases a whole number of times in a hyperperiod
pub whole_periods : (tasks : List Task) → All (λ task. 1 ≤ cycle_ticks task) tasks → All (λ task. task.period ∣ hyperperiod tasks) tasks
whole_periods tasks some k d low =
    let task : Task = get_or tasks k d in
    dvd_trans task.period (dvd-mul_right task.period (length task.cycle)) (dvd_of_mod-eq-zero (cycle_ticks task) ((hyperperiod_is_least tasks some).multiple k d low))

-- and that number is one of whole cycles
whole_cycles : (h period size k m : ℕ) → 1 ≤ period * size → h % (period * size) ≡ 0 → (k + m * (h / period)) % size ≡ k % size
whole_cycles h zero size k m some whole = absurd (omega arith)
whole_cycles h (suc p) size k m some whole =
    let cycles : ℕ = h / (suc p * size) in
    let split : h ≡ cycles * size * suc p = omega (arith, div-add-mod h (suc p * size), whole) in
    let jobs : h / suc p ≡ cycles * size = ap (λ n. n / suc p) split ∙ mul-div_cancel (cycles * size) (omega arith) in
    let later : k + m * (h / suc p) ≡ k + m * cycles * size = ap (λ n. k + m * n) jobs ∙ omega arith in
    ap (λ n. n % size) later ∙ add-mul-mod_self_right k (m * cycles) size

pub copies_have_their_table : CopiesHaveTheirTable
copies_have_their_table tasks some i d low k m =
    let task : Task = get_or tasks i d in
    ap (λ n. slice_index_or task.cycle n [])
    (whole_cycles (hyperperiod tasks) task.period (length task.cycle) k m (some i d low) ((hyperperiod_is_least tasks some).multiple i d low))
