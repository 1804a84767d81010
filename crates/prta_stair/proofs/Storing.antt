-- What a curve that keeps its steps shows of its list.
use Rattle.std.proofs.Common.{◌≡◌, ℕ, ◌<◌, ◌≤◌, ◌∙◌, sym, ap, List, [], ◌∷◌, length, take, slice_set, arith, refl, subst}
use Rattle.std.proofs.lemmas.List.{length-set}
use Rattle.std.proofs.lemmas.List.FromFn.{take-map-range_with_len}
use Rattle.prta_mass.specs.Unit.{unit}
use Rattle.prta_mass.specs.Chances.{at, point, IsChances}
use Rattle.prta_dist.proofs.Cells.{length-cells_of}
use Rattle.prta_stair.specs.Steps.{Steps, value_at, cells_by_steps, steps_of, AreSteps}
use Rattle.prta_stair.specs.Stair.{IsStair}
use Rattle.prta_stair.proofs.Lists.{at_is, chances, read_back}
use Rattle.prta_stair.proofs.Settings.{one_step, point_is}

module _ (kept spare : Steps) (marks : List ℕ) (count : ℕ) (now : List ℕ) (is : IsStair kept spare marks count) (view : cells_by_steps (length kept) (take count kept) ≡ now) where
  pub size_now : length now ≡ length kept
  size_now = ap length (sym view) ∙ length-cells_of (length kept) (value_at (take count kept))

  pub values_now : at now ≡ value_at (take count kept)
  values_now = ap at (sym view) ∙ at_is (length kept) (take count kept) (omega (arith, is.least)) is.steps

  pub chances_now : IsChances now
  chances_now = subst IsChances view (chances (length kept) (take count kept) is.steps)

  pub steps_now : take count kept ≡ steps_of now
  steps_now = sym (read_back (length kept) (take count kept) is.steps) ∙ ap steps_of view

  pub are_now : AreSteps (length now) (take count kept)
  are_now = subst (λ n. AreSteps n (take count kept)) (sym size_now) is.steps

  pub front_now : (n : ℕ) → n ≤ length now → cells_by_steps n (take count kept) ≡ take n now
  front_now n le = sym (take-map-range_with_len (value_at (take count kept)) 0 (length kept) n (omega (arith, le, size_now))) ∙ ap (take n) view

  -- as a call sees it that reads the steps and writes the spare ones
  pub cells_now : (slice room : Steps) → slice ≡ kept → room ≡ spare → cells_by_steps (length room) (take count slice) ≡ now
  cells_now slice room e f =
      ap (λ n. cells_by_steps n (take count slice)) (ap length f ∙ is.room) ∙ ap (λ (xs : Steps). cells_by_steps (length kept) (take count xs)) e ∙ view

-- another's steps, copied
pub copied : (kept spare others more new : Steps) (marks its : List ℕ) (count number : ℕ) → IsStair kept spare marks count → IsStair others more its number → length new ≡ length kept → length others ≡ length kept → take number new ≡ take number others → IsStair new spare marks number
copied kept spare others more new marks its count number is other size same e = record {
  least = omega (arith, is.least, size);
  most = omega (arith, is.most, size);
  room = omega (arith, is.room, size);
  space = omega (arith, is.space, size);
  within = omega (arith, other.within, size, same);
  steps = subst (AreSteps (length new)) (sym e) (subst (λ n. AreSteps n (take number others)) (let f : length others ≡ length new = omega (arith, size, same) in f) other.steps);
}

-- ---- points

first_set : (steps : Steps) (x : ℕ × ℕ) → 0 < length steps → take 1 (slice_set steps 0 x) ≡ x ∷ []
first_set [] x some = absurd (omega (arith, some))
first_set (y ∷ ys) x some = refl

pub pointed : (kept spare : Steps) (marks : List ℕ) (count b : ℕ) → IsStair kept spare marks count → b < length kept → IsStair (slice_set kept 0 (b, unit)) spare marks 1
pointed kept spare marks count b is room =
    let size : length (slice_set kept 0 (b, unit)) ≡ length kept = length-set kept 0 (b, unit) in
    record {
      least = omega (arith, is.least, size);
      most = omega (arith, is.most, size);
      room = omega (arith, is.room, size);
      space = omega (arith, is.space, size);
      within = omega (arith, is.least, size);
      steps = subst (AreSteps (length (slice_set kept 0 (b, unit)))) (sym (first_set kept (b, unit) (omega (arith, is.least)))) (one_step (length (slice_set kept 0 (b, unit))) b (omega (arith, room, size)));
    }

pub pointed_cells : (kept : Steps) (b : ℕ) → 0 < length kept → cells_by_steps (length (slice_set kept 0 (b, unit))) (take 1 (slice_set kept 0 (b, unit))) ≡ point (length kept) b
pointed_cells kept b some =
    ap (λ n. cells_by_steps n (take 1 (slice_set kept 0 (b, unit)))) (length-set kept 0 (b, unit))
    ∙ ap (cells_by_steps (length kept)) (first_set kept (b, unit) some)
    ∙ point_is (length kept) b
