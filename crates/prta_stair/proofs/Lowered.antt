-- A list that is lowered step by step.
use Rattle.std.proofs.Common.{◌≡◌, ℕ, suc, ◌<◌, ◌≤◌, ◌+◌, ◌-◌, ◌∙◌, sym, ap, length, take, arith, if◌then◌else◌, ⊎_elim}
use Rattle.std.proofs.lemmas.List.{length-take-le}
use Rattle.std.proofs.lemmas.Bool.{cases_lt, le-leb, lt-leb}
use Rattle.prta_stair.specs.Steps.{Steps, value_at, place, height, AreRising, AreSteps}
use Rattle.prta_stair.specs.Setting.{IsPut}
use Rattle.prta_stair.proofs.Values.{more_here, more_before, value_most, level_next, value_take}
use Rattle.prta_stair.proofs.Putting.{no_steps}

-- the new list so far is that of the first i steps, lowered by s, stands below top, and at or before, and below, the others
pub record Lowered (steps : Steps) (s top cap i count : ℕ) (to : Steps) : Type 0 where
  pub few : count ≤ cap
  pub are : AreSteps cap (take count to)
  pub values : (k : ℕ) → value_at (take count to) k ≡ value_at (take i steps) k - s
  pub under : (n : ℕ) → n < count → place (take count to) n < top
  pub ahead : (n m : ℕ) → n < count → i ≤ m → m < length steps → (place (take count to) n ≤ place steps m) × (height (take count to) n < height steps m - s)

pub lowered_none : (steps : Steps) (s top cap : ℕ) (to : Steps) → Lowered steps s top cap 0 0 to
lowered_none steps s top cap to = record {
  few = omega arith;
  are = no_steps cap;
  values = λ k. omega arith;
  under = λ n l. absurd (omega arith);
  ahead = λ n m l from within. absurd (omega arith);
}

module _ (steps : Steps) (s top cap i count : ℕ) (to : Steps) (rise : AreRising steps) (lt : i < length steps) (so_far : Lowered steps s top cap i count to) where
  next : suc i ≡ i + 1
  next = omega arith

  -- a step that stays
  pub lowered_step : (more : ℕ) (new : Steps) → place steps i < top → 0 < height steps i - s → length new ≡ cap → more ≤ cap → IsPut cap (place steps i) (height steps i - s) (take count to) (take more new) → Lowered steps s top cap (i + 1) more new
  lowered_step more new inside some size few put =
      let made : length (take more new) ≡ more = length-take-le more new (omega arith) in
      record {
        few = few;
        are = put.steps;
        values = λ k. ⊎_elim
            (λ (far : k < place steps i).
            put.values k ∙ ap (λ b. if b then height steps i - s else value_at (take count to) k) (lt-leb (place steps i) k far)
            ∙ so_far.values k ∙ ap (λ x. x - s) (sym (more_before steps i k lt far)) ∙ ap (λ n. value_at (take n steps) k - s) next)
            (λ (here : place steps i ≤ k).
            put.values k ∙ ap (λ b. if b then height steps i - s else value_at (take count to) k) (le-leb (place steps i) k here)
            ∙ ap (λ x. x - s) (sym (more_here steps i k lt here)) ∙ ap (λ n. value_at (take n steps) k - s) next)
            (cases_lt k (place steps i));
        under = λ n l. omega (arith, (put.most n (omega (arith, made, l))).0, inside);
        ahead = λ n m l from within. (
          omega (arith, (put.most n (omega (arith, made, l))).0, (rise i m (omega arith) within).0),
          omega (arith, (put.most n (omega (arith, made, l))).1, (rise i m (omega arith) within).1, some),
        );
      }

  -- a step that becomes 0
  pub dropped_step : height steps i ≤ s → Lowered steps s top cap (i + 1) count to
  dropped_step none = record {
    few = so_far.few;
    are = so_far.are;
    values = λ k. ⊎_elim
        (λ (far : k < place steps i). so_far.values k ∙ ap (λ x. x - s) (sym (more_before steps i k lt far)) ∙ ap (λ n. value_at (take n steps) k - s) next)
        (λ (here : place steps i ≤ k).
        let low : value_at (take i steps) k ≤ height steps i = omega (arith, value_most steps i k rise (omega arith), level_next steps i rise lt) in
        let gone : value_at (take i steps) k - s ≡ value_at (take (suc i) steps) k - s = omega (arith, low, none, more_here steps i k lt here) in
        so_far.values k ∙ gone ∙ ap (λ n. value_at (take n steps) k - s) next)
        (cases_lt k (place steps i));
    under = so_far.under;
    ahead = λ n m l from within. so_far.ahead n m l (omega arith) within;
  }

-- below the top
pub lowered_all : (steps : Steps) (s top cap kept i count : ℕ) (to : Steps) → AreRising steps → kept ≤ length steps → (kept < length steps → top < place steps kept + 1) → i ≡ kept → Lowered steps s top cap i count to → (k : ℕ) → k < top → value_at (take count to) k ≡ value_at steps k - s
lowered_all steps s top cap kept i count to rise le next e so_far k l =
    so_far.values k ∙ ap (λ n. value_at (take n steps) k - s) e ∙ ap (λ x. x - s) (sym (value_take steps kept k rise le (λ h. omega (arith, next h))))
