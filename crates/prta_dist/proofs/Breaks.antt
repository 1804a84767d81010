-- The first break of a list and an image.
use Rattle.std.proofs.Common.{◌≡◌, ℕ, ◌-◌, ◌<◌, ◌≤◌, Option, Some, None, true, false, nat_lt, option_map, find, List, length, get_or, refl, ap, sym, ◌∙◌, arith, ⊎_elim}
use Rattle.std.specs.List.{range_with_len}
use Rattle.std.proofs.lemmas.List.{get_or_past}
use Rattle.std.proofs.lemmas.Bool.{cases_lt, lt-ltb}
use Rattle.std.proofs.lemmas.Bool.Decides.{nat_tests}
use Rattle.prta_mass.specs.Chances.{at, Dominates}
use Rattle.prta_mass.proofs.Find.{find_in_range, find_none_in_range, fails_in_range}
use Rattle.prta_dist.specs.declared.effect.Break.{Break}
use Rattle.prta_dist.specs.Curve.{breaks_at, break_at, first_break}
use Rattle.prta_dist.specs.Laws.{UnbrokenDominates}
use Rattle.prta_dist.proofs.Cells.{at_cell, at_past}

nothing_mapped : {X Y : Type 0} (f : X → Y) (o : Option X) → option_map f o ≡ None → o ≡ None
nothing_mapped f None h = refl
nothing_mapped f (Some x) h = cc

not_below : (a b : ℕ) → nat_lt a b ≡ false → b ≤ a
not_below a b h = grind (arith, nat_tests)

no_test : (a b : ℕ) → b ≤ a → nat_lt a b ≡ false
no_test a b h = grind (arith, nat_tests)

pub unbroken : UnbrokenDominates
unbroken cells image size =
    let n : ℕ = length cells in (
      λ none k.
          let holds : (i : ℕ) → i < n → at cells i ≤ at image i = λ i h.
          not_below (at image i) (at cells i) (fails_in_range (breaks_at cells image) 0 n i (nothing_mapped (break_at cells image) (find (breaks_at cells image) (range_with_len 0 n)) none) (omega arith) (omega arith)) in
          ⊎_elim
          (λ (l : k < n). holds k l)
          (λ (l : n ≤ k). ⊎_elim
          (λ (some : 0 < n). omega (arith, holds (n - 1) (omega arith), at_past cells k (omega arith), at_past image k (omega arith), at_past cells (n - 1) (omega arith), at_past image (n - 1) (omega arith)))
          (λ (empty : n ≤ 0). omega (arith, at_past cells k (omega arith), get_or_past cells (n - 1) 0 (omega arith)))
          (cases_lt 0 n))
          (cases_lt k n),
      λ (dominates : Dominates cells image).
          ap (option_map (break_at cells image)) (find_none_in_range (breaks_at cells image) 0 n (λ k low high. no_test (at image k) (at cells k) (dominates k))),
    )

-- the first place where a cell of the image is below the list's is the first break
pub break_found : (cells image : List ℕ) (k : ℕ) → length image ≡ length cells → k < length cells → get_or image k 0 < get_or cells k 0 → ((j : ℕ) → j < k → breaks_at cells image j ≡ false) →
    Some (record { place = k; had = get_or cells k 0; got = get_or image k 0 }) ≡ first_break cells image
break_found cells image k size inside below before =
    let had : get_or cells k 0 ≡ at cells k = at_cell cells k 0 inside in
    let got : get_or image k 0 ≡ at image k = at_cell image k 0 (omega arith) in
    let here : breaks_at cells image k ≡ true = lt-ltb (at image k) (at cells k) (omega arith) in
    ap (λ (b : Break). Some b) (λ i. record { place = k; had = had i; got = got i })
    ∙ sym (ap (option_map (break_at cells image)) (find_in_range (breaks_at cells image) 0 (length cells) k (omega arith) (omega arith) (λ j low high. before j high) here))
