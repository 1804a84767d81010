-- The base list, place by place.
use Rattle.std.proofs.Common.{◌≡◌, ℕ, suc, ◌+◌, ◌-◌, ◌*◌, ◌≤◌, ◌<◌, nat_lt, if◌then◌else◌, List, length, ap, sym, ◌∙◌, arith, ⊎_elim}
use Rattle.std.specs.Int.{div_ceil}
use Rattle.std.proofs.lemmas.List.FromFn.{fill_by_all}
use Rattle.std.proofs.lemmas.Bool.{cases_lt, cond-true, cond-false, lt-ltb, le-ltb}
use Rattle.prta_mass.specs.Unit.{unit}
use Rattle.prta_mass.specs.Chances.{at, cells_of}
use Rattle.prta_dist.specs.Curve.{raise}
use Rattle.prta_dist.proofs.Cells.{at_cell, length-cells_of, at-cells_of}
use Rattle.prta_tail.specs.declared.ratio.Ratio.{Ratio}
use Rattle.prta_tail.specs.Ratios.{IsProper}
use Rattle.prta_tail.specs.Tail.{shrunk, base_cell}
use Rattle.prta_tail.proofs.Holding.{cell_is, shrunk_falls}

moved : (k place x y z : ℕ) → z ≡ y → (k ≡ place → x ≡ y) → (if nat_lt k place then x else y) ≡ (if nat_lt k (place + 1) then x else z)
moved k place x y z e h = ⊎_elim
    (λ (l : k < place). cond-true (nat_lt k place) x y (lt-ltb k place l) ∙ sym (cond-true (nat_lt k (place + 1)) x z (lt-ltb k (place + 1) (omega arith))))
    (λ (l : place ≤ k). cond-false (nat_lt k place) x y (le-ltb k place l) ∙ ⊎_elim
    (λ (m : k < place + 1). sym (cond-true (nat_lt k (place + 1)) x z (lt-ltb k (place + 1) m) ∙ h (omega arith)))
    (λ (m : place + 1 ≤ k). sym (cond-false (nat_lt k (place + 1)) x z (le-ltb k (place + 1) m) ∙ e))
    (cases_lt k (place + 1)))
    (cases_lt k place)

-- the cells before a place are those of the base list, and from there on stands the cell before it
pub record IsLoaded (r : Ratio) (worst cap place : ℕ) (cells : List ℕ) : Type 0 where
  pub size : length cells ≡ cap
  pub cell : (k : ℕ) → k < cap → at cells k ≡ (if nat_lt k place then base_cell r worst k else unit - shrunk r (place - worst))

module _ (r : Ratio) (is : IsProper r) (worst cap : ℕ) where
  length-raise : (place value : ℕ) (cells : List ℕ) → length (raise place value cells) ≡ length cells
  length-raise place value cells = length-cells_of (length cells) _

  at-raise : (place value : ℕ) (cells : List ℕ) (k : ℕ) → k < length cells → at (raise place value cells) k ≡ (if nat_lt k place then at cells k else value)
  at-raise place value cells k low = at-cells_of (length cells) (λ k. if nat_lt k place then at cells k else value) k low

  pub loaded_start : (cells : List ℕ) → length cells ≡ cap → IsLoaded r worst cap 0 (raise 0 0 cells)
  loaded_start cells size = record {
    size = length-raise 0 0 cells ∙ size;
    cell = λ k low.
        at-raise 0 0 cells k (omega (arith, size)) ∙ cond-false (nat_lt k 0) (at cells k) 0 (le-ltb k 0 (omega arith))
        ∙ sym (cond-false (nat_lt k 0) (base_cell r worst k) (unit - shrunk r (0 - worst)) (le-ltb k 0 (omega arith)) ∙ none);
  }
    where
      none : unit - shrunk r (0 - worst) ≡ 0
      none = let e : 0 - worst ≡ 0 = omega arith in omega (arith, ap (shrunk r) e)

  -- the cell at the place is the one before, below the worst-case backlog
  pub loaded_still : (place : ℕ) (cells : List ℕ) → IsLoaded r worst cap place cells → place < worst → IsLoaded r worst cap (place + 1) cells
  loaded_still place cells loaded low = record { size = loaded.size; cell = λ k near. loaded.cell k near ∙ same k }
    where
      here : unit - shrunk r (place + 1 - worst) ≡ unit - shrunk r (place - worst)
      here = let e : place + 1 - worst ≡ place - worst = omega arith in ap (λ n. unit - shrunk r n) e

      same : (k : ℕ) → (if nat_lt k place then base_cell r worst k else unit - shrunk r (place - worst)) ≡ (if nat_lt k (place + 1) then base_cell r worst k else unit - shrunk r (place + 1 - worst))
      same k = moved k place (base_cell r worst k) (unit - shrunk r (place - worst)) (unit - shrunk r (place + 1 - worst)) here (λ e. ap (base_cell r worst) e ∙ cell_is r is worst place ∙ here)

  pub loaded_more : (place : ℕ) (cells : List ℕ) → IsLoaded r worst cap place cells → place < cap → (value : ℕ) → value ≡ unit - shrunk r (place + 1 - worst) →
      IsLoaded r worst cap (place + 1) (raise place value cells)
  loaded_more place cells loaded near value value_is = record {
    size = length-raise place value cells ∙ loaded.size;
    cell = λ k low. at-raise place value cells k (omega (arith, loaded.size)) ∙ same k low;
  }
    where
      same : (k : ℕ) → k < cap → (if nat_lt k place then at cells k else value) ≡ (if nat_lt k (place + 1) then base_cell r worst k else unit - shrunk r (place + 1 - worst))
      same k low = ⊎_elim
          (λ (l : k < place).
          cond-true (nat_lt k place) (at cells k) value (lt-ltb k place l) ∙ loaded.cell k low ∙ cond-true (nat_lt k place) _ _ (lt-ltb k place l)
          ∙ sym (cond-true (nat_lt k (place + 1)) _ _ (lt-ltb k (place + 1) (omega arith))))
          (λ (l : place ≤ k).
          cond-false (nat_lt k place) (at cells k) value (le-ltb k place l) ∙ value_is ∙ past k l)
          (cases_lt k place)
        where
          past : (k : ℕ) → place ≤ k → unit - shrunk r (place + 1 - worst) ≡ (if nat_lt k (place + 1) then base_cell r worst k else unit - shrunk r (place + 1 - worst))
          past k l = ⊎_elim
              (λ (h : k < place + 1). let e : k ≡ place = omega arith in sym (cond-true (nat_lt k (place + 1)) _ _ (lt-ltb k (place + 1) h) ∙ ap (base_cell r worst) e ∙ cell_is r is worst place))
              (λ (h : place + 1 ≤ k). sym (cond-false (nat_lt k (place + 1)) _ _ (le-ltb k (place + 1) h)))
              (cases_lt k (place + 1))

  pub loaded_all : (cells : List ℕ) → IsLoaded r worst cap cap cells → cells ≡ cells_of cap (base_cell r worst)
  loaded_all cells loaded =
      fill_by_all (base_cell r worst) cells cap 0 loaded.size
      (λ k low. at_cell cells k 0 (omega (arith, loaded.size)) ∙ loaded.cell k low ∙ cond-true (nat_lt k cap) _ _ (lt-ltb k cap low))

  -- what is left of the unit, one place further
  pub next_tail : (place tail : ℕ) → tail ≡ shrunk r (place - worst) → worst ≤ place → div_ceil (tail * r.p) r.q ≡ shrunk r (place + 1 - worst)
  next_tail place tail tail_is reached =
      let next : suc (place - worst) ≡ place + 1 - worst = omega arith in
      ap (λ t. div_ceil (t * r.p) r.q) tail_is ∙ ap (shrunk r) next

  pub still_tail : (place tail : ℕ) → tail ≡ shrunk r (place - worst) → place < worst → tail ≡ shrunk r (place + 1 - worst)
  still_tail place tail tail_is low = let same : place - worst ≡ place + 1 - worst = omega arith in tail_is ∙ ap (shrunk r) same

  -- at most the unit
  pub tail_low : (n : ℕ) → shrunk r n ≤ unit
  tail_low n = shrunk_falls r is 0 n (omega arith)
