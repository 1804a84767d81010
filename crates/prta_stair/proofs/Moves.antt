-- A list whose steps move, one after another.
use Rattle.std.proofs.Common.{◌≡◌, ℕ, suc, ◌<◌, ◌≤◌, ◌+◌, ◌∙◌, sym, ap, length, take, arith, refl, if◌then◌else◌, ⊎_elim}
use Rattle.std.proofs.lemmas.List.{take_all, length-take-le}
use Rattle.std.proofs.lemmas.Bool.{cases_lt, le-leb, lt-leb}
use Rattle.prta_mass.specs.Chances.{at}
use Rattle.prta_resample.specs.Resample.{read_place, resampled}
use Rattle.prta_shift.specs.Shift.{shifted}
use Rattle.prta_mass.specs.declared.direction.Dir.{Dir}
use Rattle.prta_mass.specs.declared.support.Support.{Support}
use Rattle.prta_dist.proofs.Cells.{length-cells_of}
use Rattle.prta_stair.specs.Steps.{Steps, value_at, cells_by_steps, place, height, AreRising, AreSteps}
use Rattle.prta_stair.specs.Setting.{IsPut}
use Rattle.prta_stair.specs.declared.moving.Move.{Move}
use Rattle.prta_stair.specs.Moving.{place_read, MovesTo, Makes}
use Rattle.prta_stair.proofs.Putting.{no_steps}
use Rattle.prta_stair.proofs.Values.{more_here, more_before}
use Rattle.prta_stair.proofs.Lists.{same_cells, at_steps}

-- the value at k after a moved step more
pub moved_more : (cap : ℕ) (old new steps : Steps) (read : ℕ → ℕ) (i g k : ℕ) → i < length steps → k < cap → IsPut cap g (height steps i) old new → MovesTo read cap (place steps i) g
    → value_at old k ≡ value_at (take i steps) (read k) → value_at new k ≡ value_at (take (i + 1) steps) (read k)
moved_more cap old new steps read i g k lt within put moves before =
    let next : suc i ≡ i + 1 = omega arith in
    let both : (place steps i ≤ read k → g ≤ k) × (g ≤ k → place steps i ≤ read k) = moves k within in
    ⊎_elim
    (λ (far : k < g). put.values k ∙ ap (λ b. if b then height steps i else value_at old k) (lt-leb g k far) ∙ before
    ∙ sym (more_before steps i (read k) lt (⊎_elim (λ (l : read k < place steps i). l) (λ (ge : place steps i ≤ read k). absurd (omega (arith, far, both.0 ge))) (cases_lt (read k) (place steps i))))
    ∙ ap (λ n. value_at (take n steps) (read k)) next)
    (λ (near : g ≤ k). put.values k ∙ ap (λ b. if b then height steps i else value_at old k) (le-leb g k near)
    ∙ sym (more_here steps i (read k) lt (both.1 near))
    ∙ ap (λ n. value_at (take n steps) (read k)) next)
    (cases_lt k g)

-- steps move in order
pub moves_mono : (read : ℕ → ℕ) (cap q p g h : ℕ) → h < cap → MovesTo read cap q g → MovesTo read cap p h → q ≤ p → g ≤ h
moves_mono read cap q p g h room a b le = (a h room).0 (omega (arith, (b h room).1 (omega arith), le))

-- what stays true of the places and values written so far
pub before_more : (cap : ℕ) (old new steps : Steps) (i g h n m : ℕ) → AreRising steps → IsPut cap g (height steps i) old new → n < length new → i + 1 ≤ m → m < length steps → g ≤ h → (place new n ≤ h) × (height new n < height steps m)
before_more cap old new steps i g h n m rise put lt from within le = (omega (arith, (put.most n lt).0, le), omega (arith, (put.most n lt).1, (rise i m (omega (arith, from)) within).1))

-- ---- the loop

-- the new list so far is that of the first i steps, and lies at or before, and below, where the others go
pub record Moved (how : Move) (steps : Steps) (cap i count : ℕ) (to : Steps) : Type 0 where
  pub few : count ≤ cap
  pub are : AreSteps cap (take count to)
  pub values : (k : ℕ) → k < cap → value_at (take count to) k ≡ value_at (take i steps) (place_read how cap k)
  pub ahead : (n m g : ℕ) → n < count → i ≤ m → m < length steps → g < cap → MovesTo (place_read how cap) cap (place steps m) g → (place (take count to) n ≤ g) × (height (take count to) n < height steps m)

pub moved_none : (how : Move) (steps : Steps) (cap : ℕ) (to : Steps) → Moved how steps cap 0 0 to
moved_none how steps cap to = record {
  few = omega arith;
  are = no_steps cap;
  values = λ k h. refl;
  ahead = λ n m g l from within room moves. absurd (omega arith);
}

pub moved_step : (how : Move) (steps : Steps) (cap i count more g : ℕ) (to new : Steps) → AreRising steps → i < length steps → length new ≡ cap → more ≤ cap → g < cap → MovesTo (place_read how cap) cap (place steps i) g
    → IsPut cap g (height steps i) (take count to) (take more new) → Moved how steps cap i count to → Moved how steps cap (i + 1) more new
moved_step how steps cap i count more g to new rise lt size few room moves put so_far =
    let made : length (take more new) ≡ more = length-take-le more new (omega arith) in
    record {
      few = few;
      are = put.steps;
      values = λ k h. moved_more cap (take count to) (take more new) steps (place_read how cap) i g k lt h put moves (so_far.values k h);
      ahead = λ n m p l from within below later. before_more cap (take count to) (take more new) steps i g p n m rise put (omega (arith, made, l)) from within
          (moves_mono (place_read how cap) cap (place steps i) (place steps m) g p below moves later (omega (arith, (rise i m (omega (arith, from)) within).0)));
    }

pub moved_all : (how : Move) (steps : Steps) (cap i count : ℕ) (to : Steps) → length steps ≤ i → Moved how steps cap i count to → Makes cap (λ k. value_at steps (place_read how cap k)) (take count to)
moved_all how steps cap i count to past so_far = record {
  steps = so_far.are;
  values = λ k h. so_far.values k h ∙ ap (λ (ys : Steps). value_at ys (place_read how cap k)) (take_all i steps past);
}

-- ---- the lists

pub makes_shifted : (cap t : ℕ) (steps new : Steps) → 0 < cap → AreSteps cap steps → Makes cap (λ k. value_at steps (k + t)) new → cells_by_steps cap new ≡ shifted t (cells_by_steps cap steps)
makes_shifted cap t steps new some are makes =
    same_cells cap (length (cells_by_steps cap steps)) (value_at new) (λ k. at (cells_by_steps cap steps) (k + t)) (sym (length-cells_of cap (value_at steps)))
    (λ k h. makes.values k h ∙ sym (at_steps cap steps (k + t) some are))

pub makes_resampled : (cap : ℕ) (dir : Dir) (support : Support) (steps new : Steps) → 0 < cap → AreSteps cap steps → Makes cap (λ k. value_at steps (read_place dir support cap k)) new → cells_by_steps cap new ≡ resampled dir support (cells_by_steps cap steps)
makes_resampled cap dir support steps new some are makes =
    let size : length (cells_by_steps cap steps) ≡ cap = length-cells_of cap (value_at steps) in
    same_cells cap (length (cells_by_steps cap steps)) (value_at new) (λ k. at (cells_by_steps cap steps) (read_place dir support (length (cells_by_steps cap steps)) k)) (sym size)
    (λ k h. makes.values k h ∙ sym (at_steps cap steps (read_place dir support cap k) some are) ∙ ap (λ n. at (cells_by_steps cap steps) (read_place dir support n k)) (sym size))
