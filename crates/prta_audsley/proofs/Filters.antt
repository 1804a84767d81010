-- One filter after another.
use Rattle.std.proofs.Common.{◌≡◌, Bool, true, false, ◌&&◌, cond, List, [], ◌∷◌, filter, refl, ap}

pub filter-filter : {X : Type 0} (p q : X → Bool) (xs : List X) → filter p (filter q xs) ≡ filter (λ x. p x && q x) xs
filter-filter p q [] = refl
filter-filter p q (x ∷ xs) =
    let both = filter (λ x. p x && q x) xs in
    let rest : filter p (filter q xs) ≡ both = filter-filter p q xs in
    elim (q x) as (λ b. filter p (cond b (x ∷ filter q xs) (filter q xs)) ≡ cond (p x && b) (x ∷ both) both) [
      | true ↦ elim (p x) as (λ a. cond a (x ∷ filter p (filter q xs)) (filter p (filter q xs)) ≡ cond (a && true) (x ∷ both) both) [ true ↦ ap (λ ys. x ∷ ys) rest | false ↦ rest ]
      | false ↦ elim (p x) as (λ a. filter p (filter q xs) ≡ cond (a && false) (x ∷ both) both) [ true ↦ rest | false ↦ rest ]
    ]
