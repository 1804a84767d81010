-- The addition of a table to a list by its steps.
use Rattle.std.proofs.Common.{◌≡◌, ℕ, zero, suc, ◌<◌, ◌≤◌, ◌+◌, ◌-◌, ◌*◌, ◌%◌, ◌^◌, ◌∙◌, sym, ap, Bool, not, nat_eq, ◌||◌, List, length, take, get_or, sum_by, arith, refl, mul-le-mul_right, ⊎_elim}
use Rattle.std.specs.List.{range_with_len, list_any}
use Rattle.std.proofs.lemmas.List.{take_all}
use Rattle.std.proofs.lemmas.List.Sums.{sum_by_more, sum_by_more_le}
use Rattle.std.proofs.lemmas.List.Folds.{list_any_more}
use Rattle.std.proofs.lemmas.List.FromFn.{length-range_with_len, get_or-range_with_len}
use Rattle.std.proofs.lemmas.Bool.{cases_lt}
use Rattle.prta_mass.specs.Unit.{unit}
use Rattle.prta_mass.specs.Table.{Table, total}
use Rattle.prta_mass.specs.Chances.{last, before}
use Rattle.prta_mass.specs.Direction.{divided}
use Rattle.prta_mass.specs.declared.direction.Dir.{Dir}
use Rattle.prta_dist.specs.Addition.{weighted, cell_added, cells_added, leaves_rest, is_rounded, missing, cut_amount}
use Rattle.prta_dist.proofs.Cells.{length-cells_of}
use Rattle.prta_dist.proofs.Sums.{before_both, sum_most}
use Rattle.prta_stair.specs.Steps.{Steps, value_at, cells_by_steps, place, height, AreSteps}
use Rattle.prta_stair.specs.Reading.{level}
use Rattle.prta_stair.specs.Adding.{sum_at, sum_of_first, marked, some_rest}
use Rattle.prta_stair.proofs.Values.{value_limited}
use Rattle.prta_stair.proofs.Lists.{same_cells, at_is, last_steps}
use Rattle.prta_stair.proofs.Settings.{level_end}
use Rattle.prta_stair.proofs.Marks.{first_past}

-- the sums of the steps are those of their list
pub sum_is : (cap : ℕ) (steps : Steps) (table : Table) (k : ℕ) → 0 < cap → AreSteps cap steps → sum_at table steps k ≡ weighted table (cells_by_steps cap steps) k
sum_is cap steps table k some are = sym (ap (λ (F : ℕ → ℕ). sum_by (λ (pair : ℕ × ℕ). pair.1 * before F k pair.0) table) (at_is cap steps some are))

before_limited : (cap : ℕ) (steps : Steps) (k c : ℕ) → AreSteps cap steps → before (value_at steps) k c ≤ unit
before_limited cap steps k c are = before_both (λ x. x ≤ unit) (value_at steps) k c (λ near. value_limited cap steps (k - c) are) (λ far. omega arith)

pub sum_low : (cap : ℕ) (steps : Steps) (table : Table) (k : ℕ) → AreSteps cap steps → sum_at table steps k ≤ total table * unit
sum_low cap steps table k are = sum_most table (before (value_at steps) k) unit (λ c. before_limited cap steps k c are)

-- the sum so far and one pair more
pub sum_fits : (cap : ℕ) (steps : Steps) (table : Table) (k i : ℕ) → AreSteps cap steps → total table ≤ 281474976710656 → i < length table
    → sum_at (take i table) steps k + height table i * before (value_at steps) k (place table i) < 2 ^ 110
sum_fits cap steps table k i are limited lt =
    let more : sum_at (take i table) steps k + height table i * before (value_at steps) k (place table i) ≤ sum_at table steps k = sum_by_more_le (λ (p : ℕ × ℕ). p.1 * before (value_at steps) k p.0) table i (0, 0) lt in
    omega (arith, more, sum_low cap steps table k are, mul-le-mul_right unit limited)

pub sum_more : (steps : Steps) (table : Table) (k i : ℕ) → i < length table → sum_at (take (i + 1) table) steps k ≡ sum_at (take i table) steps k + height table i * before (value_at steps) k (place table i)
sum_more steps table k i lt = sum_by_more (λ (p : ℕ × ℕ). p.1 * before (value_at steps) k p.0) table i (0, 0) lt

-- ---- cells

abbrev pub cell_at : Dir → Table → Steps → ℕ → ℕ
cell_at dir table steps k = divided dir (sum_at table steps k) (total table)

-- ---- the list

module _ (cap : ℕ) (steps : Steps) (table : Table) (some : 0 < cap) (are : AreSteps cap steps) where
  any_is : (k : ℕ) → k ≤ cap → list_any (leaves_rest table (cells_by_steps cap steps)) (take k (range_with_len 0 cap)) ≡ some_rest (total table) (sum_at table steps) k
  any_is zero le = refl
  any_is (suc k) le =
      let test : ℕ → Bool = leaves_rest table (cells_by_steps cap steps) in
      let at_k : get_or (range_with_len 0 cap) k 0 ≡ k = get_or-range_with_len 0 cap k 0 (omega arith) ∙ omega arith in
      let rest : test k ≡ not (nat_eq (sum_at table steps k % total table) 0) = ap (λ s. not (nat_eq (s % total table) 0)) (sym (sum_is cap steps table k some are)) in
      ap (λ n. list_any test (take n (range_with_len 0 cap))) (let e : suc k ≡ k + 1 = omega arith in e)
      ∙ list_any_more test (range_with_len 0 cap) k 0 (omega (arith, length-range_with_len 0 cap))
      ∙ ap (λ b. b || test (get_or (range_with_len 0 cap) k 0)) (any_is k (omega arith))
      ∙ ap (λ b. some_rest (total table) (sum_at table steps) k || b) (ap test at_k ∙ rest)

  pub rounded_is : some_rest (total table) (sum_at table steps) cap ≡ is_rounded table (cells_by_steps cap steps)
  rounded_is =
      sym (ap (λ n. list_any (leaves_rest table (cells_by_steps cap steps)) (range_with_len 0 n)) (length-cells_of cap (value_at steps))
      ∙ ap (list_any (leaves_rest table (cells_by_steps cap steps))) (sym (take_all cap (range_with_len 0 cap) (omega (arith, length-range_with_len 0 cap))))
      ∙ any_is cap (omega arith))

  pub cells_are : (dir : Dir) (new : Steps) → ((k : ℕ) → k < cap → value_at new k ≡ cell_at dir table steps k) → cells_by_steps cap new ≡ cells_added dir table (cells_by_steps cap steps)
  cells_are dir new values =
      same_cells cap (length (cells_by_steps cap steps)) (value_at new) (cell_added dir table (cells_by_steps cap steps)) (sym (length-cells_of cap (value_at steps)))
      (λ k h. values k h ∙ ap (λ s. divided dir s (total table)) (sum_is cap steps table k some are))

-- ---- marks in a window

-- the sums of the marks are those of the steps
pub marks_are : (table : Table) (steps : Steps) (marks : List ℕ) (first end cap k : ℕ) → length marks ≡ end - first → first ≤ end → (first < cap → first < end)
    → ((k : ℕ) → k < first → sum_at table steps k ≡ 0) → ((k : ℕ) → end ≤ k → k < cap → sum_at table steps k ≡ sum_at table steps (end - 1))
    → ((j : ℕ) → j < length marks → sum_of_first (j + 1) marks ≡ sum_at table steps (first + j)) → k < cap → marked marks first k ≡ sum_at table steps k
marks_are table steps marks first end cap k size le some early late sums inside = ⊎_elim
    (λ (l : k < first). ap (λ n. sum_of_first n marks) (let e : k + 1 - first ≡ 0 = omega (arith, l) in e) ∙ sym (early k l))
    (λ (l : first ≤ k). ⊎_elim
    (λ (m : k < end).
    ap (λ n. sum_of_first n marks) (let e : k + 1 - first ≡ k - first + 1 = omega (arith, l) in e)
    ∙ sums (k - first) (omega (arith, size, l, m))
    ∙ ap (sum_at table steps) (let e : first + (k - first) ≡ k = omega (arith, l) in e))
    (λ (m : end ≤ k).
    let there : first < end = some (omega (arith, l, inside)) in
    first_past marks (k + 1 - first) (omega (arith, size, m))
    ∙ ap (λ n. sum_of_first n marks) (let e : length marks ≡ end - 1 - first + 1 = omega (arith, size, there) in e)
    ∙ sums (end - 1 - first) (omega (arith, size, there))
    ∙ ap (sum_at table steps) (let e : first + (end - 1 - first) ≡ end - 1 = omega (arith, there) in e)
    ∙ sym (late k m inside))
    (cases_lt k end))
    (cases_lt k first)

-- their sum is at most that of the weights, in units
pub marks_low : (cap : ℕ) (table : Table) (steps : Steps) (marks : List ℕ) (first : ℕ) → AreSteps cap steps → ((j : ℕ) → j < length marks → sum_of_first (j + 1) marks ≡ sum_at table steps (first + j)) → sum_of_first (length marks) marks ≤ total table * unit
marks_low cap table steps marks first are sums = ⊎_elim
    (λ (l : 0 < length marks).
    let n : ℕ = length marks - 1 in
    omega (arith, ap (λ m. sum_of_first m marks) (let e : length marks ≡ n + 1 = omega (arith, l) in e), sums n (omega (arith, l)), sum_low cap steps table (first + n) are))
    (λ (l : length marks ≤ 0). omega (arith, ap (λ m. sum_of_first m marks) (let e : length marks ≡ 0 = omega (arith, l) in e)))
    (cases_lt 0 (length marks))

-- ---- the cut

-- the last value of the new steps is the computed last cell
pub computed_is : (cap count : ℕ) (steps to : Steps) (table : Table) (dir : Dir) → 0 < cap → count ≤ length to → AreSteps cap (take count to) → cells_by_steps cap (take count to) ≡ cells_added dir table (cells_by_steps cap steps) → level to count ≡ last (cells_added dir table (cells_by_steps cap steps))
computed_is cap count steps to table dir some le are e = sym (level_end to count le) ∙ sym (last_steps cap (take count to) some are) ∙ ap last e

pub cut_is : (dir : Dir) (table : Table) (cells : List ℕ) (side : Dir) (cut : ℕ) → dir ≡ side → cut ≡ missing side (last cells) (last (cells_added dir table cells)) → cut ≡ cut_amount dir table cells
cut_is dir table cells side cut e h = h ∙ sym (ap (λ (d : Dir). missing d (last cells) (last (cells_added dir table cells))) e)
