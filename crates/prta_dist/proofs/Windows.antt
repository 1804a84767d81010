-- Adding a table to the window alone is adding it to the whole list.
use Rattle.std.proofs.Common.{◌≡◌, ℕ, ◌+◌, ◌-◌, ◌*◌, ◌%◌, ◌<◌, ◌≤◌, Bool, true, false, not, nat_eq, List, ◌++◌, length, take, drop, get_or, refl, ap, sym, ◌∙◌, arith, ⊎_elim}
use Rattle.std.specs.List.{slice_range, range_with_len, list_any}
use Rattle.std.proofs.Math.Nat.{mul-mod_right}
use Rattle.std.proofs.lemmas.Bool.{cases_lt, true≢false}
use Rattle.std.proofs.lemmas.List.{length-take, length-drop, drop-drop, length-append, get_or-take, get_or-drop, get_or-append_right}
use Rattle.std.proofs.lemmas.List.Edits.{length-between}
use Rattle.std.proofs.lemmas.Slice.{between-put_mid}
use borrow.Rule.Slice.PartMut.{put_mid}
use Rattle.std.proofs.Math.ListN.{get_or-append}
use Rattle.std.proofs.lemmas.List.Folds.{Any-from_list_any, list_any_at}
use Rattle.std.proofs.lemmas.List.FromFn.{fill_by_all, length-range_with_len, get_or-range_with_len}
use Rattle.prta_mass.specs.Table.{Table, total, IsTable}
use Rattle.prta_mass.specs.Chances.{at, last, before}
use Rattle.prta_mass.specs.Direction.{divided}
use Rattle.prta_mass.specs.declared.direction.Dir.{Dir}
use Rattle.prta_dist.specs.Addition.{weighted, cell_added, cells_added, leaves_rest, is_rounded}
use Rattle.prta_dist.specs.Window.{IsWindow, window_end, added_inside, WindowAdds, WindowsAdd}
use Rattle.prta_dist.proofs.Cells.{at_cell, length-cells_of, cell-cells_of}
use Rattle.prta_dist.proofs.Sums.{before_both, before_near, sum_same}
use Rattle.prta_dist.proofs.Chances.{divided_exact, weighted_none, weighted_still}

-- ---- some place of a range

pub some_place : (p : ℕ → Bool) (n : ℕ) → list_any p (range_with_len 0 n) ≡ true → (k : ℕ) × (k < n) × (p k ≡ true)
some_place p n h =
    let found = Any-from_list_any p (range_with_len 0 n) h in
    let low : found.0 < n = omega (arith, found.2, length-range_with_len 0 n) in
    let value : found.1 ≡ found.0 = sym found.3 ∙ get_or-range_with_len 0 n found.0 found.1 low ∙ omega arith in
    (found.0, low, sym (ap p value) ∙ found.4)

pub place_of : (p : ℕ → Bool) (n k : ℕ) → k < n → p k ≡ true → list_any p (range_with_len 0 n) ≡ true
place_of p n k low h =
    let value : get_or (range_with_len 0 n) k 0 ≡ k = get_or-range_with_len 0 n k 0 low ∙ omega arith in
    list_any_at p (range_with_len 0 n) k 0 (omega (arith, length-range_with_len 0 n)) (ap p value ∙ h)

same_answer : (a b : Bool) → (a ≡ true → b ≡ true) → (b ≡ true → a ≡ true) → a ≡ b
same_answer true b there back = sym (there refl)
same_answer false true there back = back refl
same_answer false false there back = refl

-- a multiple of the total leaves no rest
pub no_rest : (table : Table) (cells : List ℕ) (k m : ℕ) → weighted table cells k ≡ total table * m → leaves_rest table cells k ≡ true → ⊥
no_rest table cells k m e rest =
    let none : leaves_rest table cells k ≡ false = ap (λ x. not (nat_eq (x % total table) 0)) e ∙ ap (λ r. not (nat_eq r 0)) (mul-mod_right (total table) m) in
    true≢false (sym rest ∙ none)

-- ---- the sums of the window are those of the whole list

before_inside : (F G : ℕ → ℕ) (lo k c : ℕ) → ((i : ℕ) → i < lo → F i ≡ 0) → ((i : ℕ) → i ≤ k → G i ≡ F (lo + i)) → before G k c ≡ before F (lo + k) c
before_inside F G lo k c zero same = before_both (λ x. x ≡ before F (lo + k) c) G k c
    (λ near.
    let e : lo + k - c ≡ lo + (k - c) = omega arith in
    same (k - c) (omega arith) ∙ sym (before_near F (lo + k) c (omega arith) ∙ ap F e))
    (λ far. before_both (λ x. 0 ≡ x) F (lo + k) c (λ near. sym (zero (lo + k - c) (omega arith))) (λ further. refl))

pub weighted_inside : (table : Table) (cells part : List ℕ) (lo k : ℕ) → ((i : ℕ) → i < lo → at cells i ≡ 0) → ((i : ℕ) → i ≤ k → at part i ≡ at cells (lo + i)) → weighted table part k ≡ weighted table cells (lo + k)
weighted_inside table cells part lo k zero same = sum_same table (before (at part) k) (before (at cells) (lo + k)) (λ c. before_inside (at cells) (at part) lo k c zero same)

-- ---- the three parts of the list

module _ (dir : Dir) (table : Table) (cells : List ℕ) (lo hi : ℕ) (is : IsTable table) (window : IsWindow cells lo hi) where
  abbrev end : ℕ
  end = window_end table cells hi

  abbrev part : List ℕ
  part = slice_range cells lo end

  size : length part ≡ end - lo
  size = length-between cells lo end (omega arith)

  inside : (i : ℕ) → i < end - lo → at part i ≡ at cells (lo + i)
  inside i h =
      sym (at_cell part i 0 (omega (arith, size)))
      ∙ get_or-take (end - lo) (drop lo cells) i 0 h ∙ get_or-drop lo cells i 0
      ∙ at_cell cells (lo + i) 0 (omega arith)

  weighted_part : (i : ℕ) → i < end - lo → weighted table part i ≡ weighted table cells (lo + i)
  weighted_part i h = weighted_inside table cells part lo i window.zero_below (λ j le. inside j (omega arith))

  weighted_before : (k : ℕ) → k < lo → weighted table cells k ≡ total table * 0
  weighted_before k l = omega (arith, weighted_none table cells lo k window.zero_below l)

  weighted_past : (k : ℕ) → end ≤ k → k < length cells → weighted table cells k ≡ total table * last cells
  weighted_past k far h = weighted_still table cells hi k is window.still_above (omega arith)

  new_cell : (k : ℕ) → k < length cells → get_or (added_inside dir table cells lo end) k 0 ≡ cell_added dir table cells k
  new_cell k h =
      let mid : List ℕ = cells_added dir table part in
      let front : length (take lo cells) ≡ lo = omega (arith, length-take lo cells) in
      let middle : length mid ≡ end - lo = length-cells_of (length part) (cell_added dir table part) ∙ size in
      ⊎_elim
      (λ (l : k < lo).
      get_or-append (take lo cells) (mid ++ drop end cells) 0 k (omega arith) ∙ get_or-take lo cells k 0 l ∙ at_cell cells k 0 h
      ∙ window.zero_below k l ∙ sym (ap (λ x. divided dir x (total table)) (weighted_before k l) ∙ divided_exact dir 0 (total table) is.weighs))
      (λ (l : lo ≤ k). get_or-append_right (take lo cells) (mid ++ drop end cells) lo k 0 front l ∙ ⊎_elim
      (λ (m : k < end).
      let e : lo + (k - lo) ≡ k = omega arith in
      get_or-append mid (drop end cells) 0 (k - lo) (omega arith)
      ∙ cell-cells_of (length part) (cell_added dir table part) (k - lo) 0 (omega (arith, size))
      ∙ ap (λ x. divided dir x (total table)) (weighted_part (k - lo) (omega arith) ∙ ap (weighted table cells) e))
      (λ (m : end ≤ k).
      get_or-append_right mid (drop end cells) (end - lo) (k - lo) 0 middle (omega arith)
      ∙ get_or-drop end cells (k - lo - (end - lo)) 0
      ∙ (let e : end + (k - lo - (end - lo)) ≡ k = omega arith in ap (λ i. get_or cells i 0) e)
      ∙ at_cell cells k 0 h ∙ window.still_above k (omega arith)
      ∙ sym (ap (λ x. divided dir x (total table)) (weighted_past k m h) ∙ divided_exact dir (last cells) (total table) is.weighs))
      (cases_lt k end))
      (cases_lt k lo)

  rest_inside : (i : ℕ) → i < end - lo → leaves_rest table part i ≡ leaves_rest table cells (lo + i)
  rest_inside i h = ap (λ x. not (nat_eq (x % total table) 0)) (weighted_part i h)

  whole_size : length (added_inside dir table cells lo end) ≡ length cells
  whole_size = omega (
    arith,
    length-append (take lo cells) (cells_added dir table part ++ drop end cells),
    length-append (cells_added dir table part) (drop end cells),
    length-take lo cells,
    length-drop end cells,
    length-cells_of (length part) (cell_added dir table part),
    size,
  )

  adds_inside : WindowAdds dir table cells lo end
  adds_inside = record {
    whole_list = fill_by_all (cell_added dir table cells) (added_inside dir table cells lo end) (length cells) 0 whole_size new_cell;
    rounded = same_answer (is_rounded table part) (is_rounded table cells)
        (λ some.
        let found = some_place (leaves_rest table part) (length part) some in
        place_of (leaves_rest table cells) (length cells) (lo + found.0) (omega (arith, found.1, size)) (sym (rest_inside found.0 (omega (arith, found.1, size))) ∙ found.2))
        (λ some.
        let found = some_place (leaves_rest table cells) (length cells) some in
        let k : ℕ = found.0 in
        ⊎_elim
        (λ (l : k < lo). absurd (no_rest table cells k 0 (weighted_before k l) found.2))
        (λ (l : lo ≤ k). ⊎_elim
        (λ (m : k < end).
        let e : lo + (k - lo) ≡ k = omega arith in
        place_of (leaves_rest table part) (length part) (k - lo) (omega (arith, size)) (rest_inside (k - lo) (omega arith) ∙ ap (leaves_rest table cells) e ∙ found.2))
        (λ (m : end ≤ k). absurd (no_rest table cells k (last cells) (weighted_past k m found.1) found.2))
        (cases_lt k end))
        (cases_lt k lo));
  }

pub windows_add : WindowsAdd
windows_add dir table cells lo hi is window = adds_inside dir table cells lo hi is window

-- ---- the same in place: the part of the spare cells is written over the part of the cells

pub added_in_place : (dir : Dir) (table : Table) (cells spare : List ℕ) (lo hi far : ℕ) → IsTable table → IsWindow cells lo hi → length spare ≡ length cells → far ≡ window_end table cells hi →
    put_mid lo (far - lo) cells (slice_range (put_mid lo (far - lo) spare (cells_added dir table (slice_range cells lo far))) lo far) ≡ cells_added dir table cells
added_in_place dir table cells spare lo hi far is window room ended =
    let new : List ℕ = cells_added dir table (slice_range cells lo far) in
    let size : length new ≡ far - lo = length-cells_of (length (slice_range cells lo far)) (cell_added dir table (slice_range cells lo far)) ∙ length-between cells lo far (omega (arith, ended)) in
    let written : slice_range (put_mid lo (far - lo) spare new) lo far ≡ new = between-put_mid lo (far - lo) spare new far (omega (arith, window.ordered, window.inside)) size in
    let place : lo + (far - lo) ≡ far = omega (arith, ended, window.ordered, window.inside) in
    let rest : drop (far - lo) (drop lo cells) ≡ drop far cells = drop-drop (far - lo) lo cells ∙ ap (λ n. drop n cells) place in
    ap (put_mid lo (far - lo) cells) written
    ∙ ap (λ xs. take lo cells ++ (new ++ xs)) rest
    ∙ ap (added_inside dir table cells lo) ended
    ∙ (windows_add dir table cells lo hi is window).whole_list

pub rounded_in_place : (dir : Dir) (table : Table) (cells : List ℕ) (lo hi far : ℕ) → IsTable table → IsWindow cells lo hi → far ≡ window_end table cells hi →
    is_rounded table (slice_range cells lo far) ≡ is_rounded table cells
rounded_in_place dir table cells lo hi far is window ended =
    ap (λ e. is_rounded table (slice_range cells lo e)) ended ∙ (windows_add dir table cells lo hi is window).rounded
