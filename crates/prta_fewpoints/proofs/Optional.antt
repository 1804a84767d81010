-- Costs that may be missing.
use Rattle.std.proofs.Common.{◌≡◌, ℕ, ◌+◌, ◌≤◌, ◌<◌, min, Option, Some, None, true, false, refl, ap, sym, ◌∙◌, arith, ⊎_elim}
use Rattle.std.proofs.lemmas.Bool.{cases_lt, eqb-true, eqb-false}
use Rattle.prta_fewpoints.specs.Recursion.{plus, lesser, reaches}

pub lesser_left : (a : ℕ) (X : Option ℕ) → (g : ℕ) × (lesser (Some a) X ≡ Some g) × (g ≤ a)
lesser_left a None = (a, refl, omega arith)
lesser_left a (Some b) = (min a b, refl, omega arith)

pub lesser_right : (Y : Option ℕ) (b : ℕ) → (g : ℕ) × (lesser Y (Some b) ≡ Some g) × (g ≤ b)
lesser_right None b = (b, refl, omega arith)
lesser_right (Some a) b = (min a b, refl, omega arith)

pub some_one : (a b : ℕ) → Some a ≡ Some b → a ≡ b
some_one a b e = cc

pub one_cost : (o : Option ℕ) (a b : ℕ) → o ≡ Some a → o ≡ Some b → a ≡ b
one_cost o a b e f = some_one a b (sym e ∙ f)

pub lesser_low : (a : ℕ) (X : Option ℕ) (g : ℕ) → lesser (Some a) X ≡ Some g → g ≤ a
lesser_low a None g e = omega (arith, some_one a g e)
lesser_low a (Some b) g e = omega (arith, some_one (min a b) g e)

-- where the first isn't the lesser, the other is
pub lesser_other : (Y X : Option ℕ) (g : ℕ) → lesser Y X ≡ Some g → reaches Y (Some g) ≡ false → X ≡ Some g
lesser_other None X g e n = e
lesser_other (Some a) None g e n = absurd (eqb-false a g n (some_one a g e))
lesser_other (Some a) (Some b) g e n =
    let q : min a b ≡ g = some_one (min a b) g e in
    let other : a ≡ g → ⊥ = eqb-false a g n in
    ap Some (⊎_elim (λ (l : a < b). absurd (other (omega arith))) (λ (l : b ≤ a). omega arith) (cases_lt a b))

pub reaches_true : (here : ℕ) (o : Option ℕ) (g : ℕ) → reaches (plus here o) (Some g) ≡ true → (h : ℕ) × (o ≡ Some h) × (here + h ≡ g)
reaches_true here None g e = absurd (cc)
reaches_true here (Some h) g e = (h, refl, eqb-true (here + h) g e)

-- the same for a goal that may be missing
pub lesser_rest : (Y X goal : Option ℕ) → lesser Y X ≡ goal → reaches Y goal ≡ false → X ≡ goal
lesser_rest None X goal e n = e
lesser_rest (Some a) None None e n = refl
lesser_rest (Some a) (Some b) None e n = cc
lesser_rest (Some a) X (Some g) e n = lesser_other (Some a) X g e n

pub lesser_none : (best : Option ℕ) → lesser best None ≡ best
lesser_none None = refl
lesser_none (Some a) = refl

pub lesser-assoc : (a b c : Option ℕ) → lesser (lesser a b) c ≡ lesser a (lesser b c)
lesser-assoc None b c = refl
lesser-assoc (Some a) None c = refl
lesser-assoc (Some a) (Some b) None = refl
lesser-assoc (Some a) (Some b) (Some c) = ap Some (omega arith)
