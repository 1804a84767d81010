-- The places of tasks in an order.
use Rattle.std.proofs.Common.{◌≡◌, ℕ, ◌<◌, true, nat_eq, List, length, get_or, ap, ◌∙◌, sym, arith}
use Rattle.std.proofs.lemmas.Bool.{eqb-true}
use Rattle.std.proofs.lemmas.List.Sums.{passes_at_first}
use Rattle.prta_sheet.specs.Machine.{place}
use Rattle.prta_jobs.specs.Laws.{HasPlaces, OrdersHavePlaces}
use Rattle.prta_jobs.specs.Permutation.{is_order}

-- two tasks that an order lists at one place are one
pub same_place : (order : List ℕ) (a b : ℕ) → place order b < length order → place order a ≡ place order b → a ≡ b
same_place order a b within same =
    let at_a : get_or order (place order a) 0 ≡ a = eqb-true (get_or order (place order a) 0) a (passes_at_first (λ other. nat_eq other a) order 0 (omega arith)) in
    let at_b : get_or order (place order b) 0 ≡ b = eqb-true (get_or order (place order b) 0) b (passes_at_first (λ other. nat_eq other b) order 0 within) in
    sym at_a ∙ ap (λ k. get_or order k 0) same ∙ at_b

pub place_within : OrdersHavePlaces → (n : ℕ) (order : List ℕ) → is_order n order ≡ true → (task : ℕ) → task < n → place order task < length order
place_within have_places n order is task low = let places : HasPlaces n order = have_places n order is in omega (arith, places.length_is, places.place_below task low)
