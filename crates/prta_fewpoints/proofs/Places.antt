-- The costs row by row, in one list.
use Rattle.std.proofs.Common.{◌≡◌, ℕ, ◌+◌, ◌/◌, ◌%◌, ◌≤◌, ◌<◌, Option, None, List, [], ◌∷◌, ◌++◌, length, drop, ap, sym, ◌∙◌, arith, ⊎_elim}
use Rattle.std.proofs.lemmas.Bool.{cases_lt}
use Rattle.std.proofs.lemmas.List.{length_push, get_or_push, get_or_append_left}
use Rattle.std.proofs.lemmas.Nat.{div-mul-add, mod-mul-add}
use Rattle.prta_mass.specs.Table.{Table}
use Rattle.prta_fewpoints.specs.Recursion.{least_cost}
use Rattle.prta_fewpoints.specs.Costs.{place_of, AreCosts}

pub no_costs : (pairs : Table) → AreCosts pairs []
no_costs pairs j i low inside = absurd (omega arith)

pub costs_push : (pairs : Table) (cells : List (Option ℕ)) (at : ℕ) (cell : Option ℕ) → AreCosts pairs cells → length cells ≡ at →
    cell ≡ least_cost (at / (length pairs + 1)) (drop (at % (length pairs + 1)) pairs) → AreCosts pairs (cells ++ cell ∷ [])
costs_push pairs cells at cell costs size is j i low inside = ⊎_elim
    (λ (l : place_of (length pairs) j i < length cells). get_or_append_left cells (cell ∷ []) None (place_of (length pairs) j i) l ∙ costs j i low l)
    (λ (l : length cells ≤ place_of (length pairs) j i).
    let here : place_of (length pairs) j i ≡ at = omega (arith, l, inside, length_push cells cell, size) in
    let row : at / (length pairs + 1) ≡ j = sym (ap (λ p. p / (length pairs + 1)) here) ∙ div-mul-add j (length pairs + 1) i (omega arith) in
    let place : at % (length pairs + 1) ≡ i = sym (ap (λ p. p % (length pairs + 1)) here) ∙ mod-mul-add j (length pairs + 1) i (omega arith) in
    get_or_push cells cell None (place_of (length pairs) j i) (omega (arith, size, here)) ∙ is ∙ ap (λ r. least_cost r (drop (at % (length pairs + 1)) pairs)) row ∙ ap (λ p. least_cost j (drop p pairs)) place)
    (cases_lt (place_of (length pairs) j i) (length cells))
