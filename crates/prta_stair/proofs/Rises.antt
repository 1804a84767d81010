-- The steps of a list of chances are steps, and steps and lists determine each other.
use Rattle.std.proofs.Common.{◌≡◌, ℕ, zero, suc, ◌<◌, ◌≤◌, ◌+◌, ◌∙◌, sym, ap, Bool, true, false, if◌then◌else◌, List, [], ◌∷◌, ◌++◌, map, length, arith, refl, subst, inl, inr}
use Rattle.std.specs.List.{range_with_len, filter}
use Rattle.std.proofs.lemmas.List.{map-append, map-id, append-nil}
use Rattle.std.proofs.lemmas.List.FromFn.{filter_of_map_range_with_len_more}
use Rattle.std.proofs.lemmas.Bool.{cases_Bool, ltb-true, ltb-false}
use Rattle.prta_mass.specs.Unit.{unit}
use Rattle.prta_mass.specs.Chances.{at, before, IsChances}
use Rattle.prta_dist.proofs.Cells.{at_rises, at_limited}
use Rattle.prta_stair.specs.Steps.{Steps, steps_of, AreSteps}
use Rattle.prta_stair.specs.Laws.{StepsAreLists}
use Rattle.prta_stair.proofs.Lists.{rises, steps_from, next_before, before_low, read, read_back, chances}
use Rattle.prta_stair.proofs.Making.{Made, made_none, made_same, made_more}

abbrev step_at : (ℕ → ℕ) → ℕ → ℕ × ℕ
step_at F k = (k, F k)

-- one place more
one_more : (F : ℕ → ℕ) (n : ℕ) → steps_from F 0 (n + 1) ≡ steps_from F 0 n ++ (if rises F n then (n, F n) ∷ [] else [])
one_more F n =
    let step : ℕ → ℕ × ℕ = step_at F in
    let places : filter (rises F) (range_with_len 0 (n + 1)) ≡ filter (rises F) (range_with_len 0 n) ++ (if rises F n then n ∷ [] else []) =
    ap (filter (rises F)) (sym (map-id (range_with_len 0 (n + 1))))
    ∙ filter_of_map_range_with_len_more (rises F) (λ (k : ℕ). k) 0 n n (omega arith)
    ∙ ap (λ (xs : List ℕ). filter (rises F) xs ++ (if rises F n then n ∷ [] else [])) (map-id (range_with_len 0 n)) in
    ap (map step) places ∙ map-append step (filter (rises F) (range_with_len 0 n)) (if rises F n then n ∷ [] else []) ∙ ap (λ (ss : Steps). steps_from F 0 n ++ ss) (inside (rises F n))
  where
    inside : (b : Bool) → map (step_at F) (if b then n ∷ [] else []) ≡ (if b then (n, F n) ∷ [] else [])
    inside true = refl
    inside false = refl

-- the steps below a place make the values there
made_below : (F : ℕ → ℕ) → ((i k : ℕ) → i ≤ k → F i ≤ F k) → ((k : ℕ) → F k ≤ unit) → (n : ℕ) → Made F n (before F n 1) (steps_from F 0 n)
made_below F up low zero = made_none F
made_below F up low (suc n) =
    let so_far : Made F n (before F n 1) (steps_from F 0 n) = made_below F up low n in
    let next : n + 1 ≡ suc n = omega arith in
    let alone : (k : ℕ) → n ≤ k → k < n + 1 → F k ≡ F n = λ k from below. ap F (let e : k ≡ n = omega (arith, from, below) in e) in
    let last : F n ≡ before F (n + 1) 1 = next_before F n in
    subst (λ m. Made F m (before F m 1) (steps_from F 0 m)) next
    (elim (cases_Bool (rises F n)) [
      | inl above ↦
          let more : Made F (n + 1) (F n) (steps_from F 0 n ++ (n, F n) ∷ []) = made_more F n (before F n 1) (n + 1) (steps_from F 0 n) so_far (omega arith) alone up (ltb-true (before F n 1) (F n) above) (low n) in
          subst (λ v. Made F (n + 1) v (steps_from F 0 (n + 1))) last (subst (Made F (n + 1) (F n)) (sym (one_more F n ∙ ap (λ b. steps_from F 0 n ++ (if b then (n, F n) ∷ [] else [])) above)) more)
      | inr still ↦
          let le : F n ≤ before F n 1 = ltb-false (before F n 1) (F n) still in
          let same : Made F (n + 1) (before F n 1) (steps_from F 0 n) = made_same F n (before F n 1) (n + 1) (steps_from F 0 n) so_far (omega arith) alone up le in
          let e : before F n 1 ≡ F n = omega (arith, le, before_low F n up) in
          subst (λ v. Made F (n + 1) v (steps_from F 0 (n + 1))) (e ∙ last)
          (subst (Made F (n + 1) (before F n 1)) (sym (one_more F n ∙ ap (λ b. steps_from F 0 n ++ (if b then (n, F n) ∷ [] else [])) still ∙ append-nil (steps_from F 0 n))) same)
    ])

rise : (cells : List ℕ) → IsChances cells → AreSteps (length cells) (steps_of cells)
rise cells is = (made_below (at cells) (λ i k le. at_rises cells i k is.rising le) (λ k. at_limited cells k is) (length cells)).steps

pub steps_and_lists : StepsAreLists
steps_and_lists = record { read = read; rise = rise; read_back = read_back; chances = chances }
