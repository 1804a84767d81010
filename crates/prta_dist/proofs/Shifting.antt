-- Shifting the window alone is shifting the whole list.
use Rattle.std.proofs.Common.{◌≡◌, ℕ, ◌+◌, ◌-◌, ◌<◌, ◌≤◌, List, ◌++◌, length, take, drop, get_or, ap, sym, ◌∙◌, arith, ⊎_elim}
use Rattle.std.specs.List.{slice_range}
use Rattle.std.proofs.Math.ListN.{get_or-append}
use Rattle.std.proofs.lemmas.Bool.{cases_lt}
use Rattle.std.proofs.lemmas.List.{length-take, length-drop, length-append, get_or-take, get_or-drop, get_or-append_right}
use Rattle.std.proofs.lemmas.List.Edits.{length-between}
use Rattle.std.proofs.lemmas.List.FromFn.{fill_by_all}
use borrow.Rule.Slice.PartMut.{put_mid}
use Rattle.prta_mass.specs.Chances.{at, last}
use Rattle.prta_shift.specs.Shift.{shifted}
use Rattle.prta_dist.specs.Window.{IsWindow}
use Rattle.prta_dist.proofs.Cells.{at_cell, at_past, length-cells_of, cell-cells_of}

module _ (cells : List ℕ) (lo hi start t : ℕ) (window : IsWindow cells lo hi) (from : start ≡ lo - t) where
  abbrev part : List ℕ
  part = slice_range cells start (hi + 1)

  size : length part ≡ hi + 1 - start
  size = length-between cells start (hi + 1) (omega (arith, window.inside))

  inside : (i : ℕ) → i < hi + 1 - start → get_or part i 0 ≡ at cells (start + i)
  inside i h = get_or-take (hi + 1 - start) (drop start cells) i 0 h ∙ get_or-drop start cells i 0 ∙ at_cell cells (start + i) 0 (omega (arith, window.inside))

  -- the part's value at every place is the list's
  everywhere : (i : ℕ) → at part i ≡ at cells (start + i)
  everywhere i = ⊎_elim
      (λ (l : i < hi + 1 - start). sym (at_cell part i 0 (omega (arith, size))) ∙ inside i l)
      (λ (l : hi + 1 - start ≤ i).
      let top : last part ≡ at cells hi =
      ap (λ n. get_or part (n - 1) 0) size ∙ inside (hi + 1 - start - 1) (omega (arith, window.ordered)) ∙ (let e : start + (hi + 1 - start - 1) ≡ hi = omega (arith, window.ordered) in ap (at cells) e) in
      at_past part i (omega (arith, size)) ∙ top ∙ window.still_above hi (omega arith) ∙ sym (window.still_above (start + i) (omega (arith, window.ordered))))
      (cases_lt i (hi + 1 - start))

  abbrev after : List ℕ
  after = put_mid start (hi + 1 - start) cells (shifted t part)

  new_size : length (shifted t part) ≡ hi + 1 - start
  new_size = length-cells_of (length part) (λ k. at part (k + t)) ∙ size

  new_cell : (k : ℕ) → k < length cells → get_or after k 0 ≡ at cells (k + t)
  new_cell k h =
      let rest : List ℕ = drop (hi + 1 - start) (drop start cells) in
      let front : length (take start cells) ≡ start = omega (arith, length-take start cells, window.ordered, window.inside) in
      ⊎_elim
      (λ (l : k < start).
      get_or-append (take start cells) (shifted t part ++ rest) 0 k (omega arith) ∙ get_or-take start cells k 0 l ∙ at_cell cells k 0 h
      ∙ window.zero_below k (omega arith) ∙ sym (window.zero_below (k + t) (omega arith)))
      (λ (l : start ≤ k). get_or-append_right (take start cells) (shifted t part ++ rest) start k 0 front l ∙ ⊎_elim
      (λ (m : k < hi + 1).
      get_or-append (shifted t part) rest 0 (k - start) (omega (arith, new_size))
      ∙ cell-cells_of (length part) (λ k. at part (k + t)) (k - start) 0 (omega (arith, size))
      ∙ everywhere (k - start + t)
      ∙ (let e : start + (k - start + t) ≡ k + t = omega arith in ap (at cells) e))
      (λ (m : hi + 1 ≤ k).
      get_or-append_right (shifted t part) rest (hi + 1 - start) (k - start) 0 new_size (omega arith)
      ∙ get_or-drop (hi + 1 - start) (drop start cells) (k - start - (hi + 1 - start)) 0
      ∙ get_or-drop start cells (hi + 1 - start + (k - start - (hi + 1 - start))) 0
      ∙ (let e : start + (hi + 1 - start + (k - start - (hi + 1 - start))) ≡ k = omega (arith, window.ordered) in ap (λ i. get_or cells i 0) e)
      ∙ at_cell cells k 0 h ∙ window.still_above k (omega arith) ∙ sym (window.still_above (k + t) (omega arith)))
      (cases_lt k (hi + 1)))
      (cases_lt k start)

  whole_size : length after ≡ length cells
  whole_size = omega (
    arith,
    length-append (take start cells) (shifted t part ++ drop (hi + 1 - start) (drop start cells)),
    length-append (shifted t part) (drop (hi + 1 - start) (drop start cells)),
    length-take start cells,
    length-drop (hi + 1 - start) (drop start cells),
    length-drop start cells,
    new_size,
    window.ordered,
    window.inside,
  )

  pub shifted_in_place : after ≡ shifted t cells
  shifted_in_place = fill_by_all (λ k. at cells (k + t)) after (length cells) 0 whole_size new_cell
