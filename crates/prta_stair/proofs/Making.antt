-- A list that is made step by step, from place 0 on, over runs of equal values.
use Rattle.std.proofs.Common.{◌≡◌, ℕ, ◌<◌, ◌≤◌, ◌+◌, ◌∙◌, sym, [], ◌∷◌, ◌++◌, length, slice_set, take, arith, refl, subst, inl, inr, ⊎_elim}
use Rattle.std.proofs.Math.Nat.{eq-or-lt_of_le}
use Rattle.std.proofs.lemmas.List.{take_more_set}
use Rattle.std.proofs.lemmas.Bool.{cases_lt}
use Rattle.prta_mass.specs.Unit.{unit}
use Rattle.prta_stair.specs.Steps.{Steps, value_at, height, AreSteps}
use Rattle.prta_stair.proofs.Values.{value_more_here, value_more_before}
use Rattle.prta_stair.proofs.Putting.{steps_more, size_more, old_height, end_height}

pub steps_wider : (k cap : ℕ) (steps : Steps) → k ≤ cap → AreSteps k steps → AreSteps cap steps
steps_wider k cap steps le are = record {
  rising = are.rising;
  some = are.some;
  limited = are.limited;
  below = λ i h. omega (arith, are.below i h, le);
}

-- the steps so far make the values below k, the last of which is `last`
pub record Made (F : ℕ → ℕ) (k last : ℕ) (out : Steps) : Type 0 where
  pub values : (i : ℕ) → i < k → value_at out i ≡ F i
  pub after : (i : ℕ) → k ≤ i + 1 → value_at out i ≡ last
  pub steps : AreSteps k out
  pub most : (i : ℕ) → i < length out → height out i ≤ last
  pub low : (i : ℕ) → k ≤ i → last ≤ F i

pub made_none : (F : ℕ → ℕ) → Made F 0 0 []
made_none F = record {
  values = λ i lt. absurd (omega (arith, lt));
  after = λ i le. refl;
  steps = record {
    rising = λ i j a b. absurd (omega (arith, b));
    some = λ i lt. absurd (omega (arith, lt));
    limited = λ i lt. absurd (omega (arith, lt));
    below = λ i lt. absurd (omega (arith, lt));
  };
  most = λ i lt. absurd (omega (arith, lt));
  low = λ i le. omega arith;
}

module _ (F : ℕ → ℕ) (k last next : ℕ) (out : Steps) (made : Made F k last out) (lt : k < next) (still : (n : ℕ) → k ≤ n → n < next → F n ≡ F k) (mono : (i j : ℕ) → i ≤ j → F i ≤ F j) where
  -- the value stays
  pub made_same : F k ≤ last → Made F next last out
  made_same le =
      let same : last ≡ F k = omega (arith, le, made.low k (omega arith)) in
      record {
        values = λ i below. ⊎_elim
            (λ (before : i < k). made.values i before)
            (λ (from : k ≤ i). made.after i (omega arith) ∙ same ∙ sym (still i from below))
            (cases_lt i k);
        after = λ i from. made.after i (omega (arith, from, lt));
        steps = steps_wider k next out (omega (arith, lt)) made.steps;
        most = made.most;
        low = λ i from. omega (arith, same, mono k i (omega (arith, from, lt)));
      }

  -- a step more
  pub made_more : last < F k → F k ≤ unit → Made F next (F k) (out ++ (k, F k) ∷ [])
  made_more rise small =
      let x : ℕ × ℕ = (k, F k) in
      record {
        values = λ i below. ⊎_elim
            (λ (before : i < k). value_more_before out x i before ∙ made.values i before)
            (λ (from : k ≤ i). value_more_here out x i from ∙ sym (still i from below))
            (cases_lt i k);
        after = λ i from. value_more_here out x i (omega (arith, from, lt));
        steps = steps_more next out k (F k) (steps_wider k next out (omega (arith, lt)) made.steps) lt small (omega (arith, rise))
            (λ i h. (made.steps.below i h, omega (arith, made.most i h, rise)));
        most = λ i within. elim (eq-or-lt_of_le (let e : i ≤ length out = omega (arith, within, size_more out x) in e)) [
          | inl e ↦ omega (arith, end_height out x i e)
          | inr l ↦ omega (arith, old_height out x i l, made.most i l, rise)
        ];
        low = λ i from. mono k i (omega (arith, from, lt));
      }

-- the step that is written behind the first `count` ones
pub made_written : (F : ℕ → ℕ) (k last next cell count : ℕ) (to : Steps) → Made F k last (take count to) → k < next → ((n : ℕ) → k ≤ n → n < next → F n ≡ F k)
    → ((i j : ℕ) → i ≤ j → F i ≤ F j) → cell ≡ F k → last < cell → F k ≤ unit → count < length to → Made F next cell (take (count + 1) (slice_set to count (k, cell)))
made_written F k last next cell count to made lt still mono e rise small room =
    subst (λ v. Made F next v (take (count + 1) (slice_set to count (k, v)))) (sym e)
    (subst (Made F next (F k)) (sym (take_more_set to count (k, F k) room))
    (made_more F k last next (take count to) made lt still mono (omega (arith, rise, e)) small))
