-- The reduction is a time table.
use Rattle.std.proofs.Common.{◌≡◌, ℕ, ◌≤◌, ◌<◌, true, cond, nat_le, nat_eq, min, List, [], ◌∷◌, filter, sum_by, length, All, ap, sym, ◌∙◌, subst, arith, ⊎_elim}
use Rattle.std.specs.List.Sorted.{IsStrictlyIncreasing}
use Rattle.std.proofs.lemmas.Bool.{cond_both, cond-true, cond-false, le-leb, lt-leb, eq-eqb}
use Rattle.std.proofs.lemmas.List.Elements.{All-from_recursion, recursion_from_All}
use Rattle.std.proofs.lemmas.List.Sums.{sum_by-cons}
use Rattle.prta_mass.specs.Table.{Table, IsTable}
use Rattle.prta_mass.specs.declared.table.TheConstants.{POINT_LIMIT}
use Rattle.prta_mass.proofs.Totals.{total_positive}
use Rattle.prta_fewpoints.specs.Wide.{IsWide}
use Rattle.prta_fewpoints.specs.Choices.{IsChoice, moved_to, weight_at}
use Rattle.prta_fewpoints.specs.Recursion.{kept_times, reduced}
use Rattle.prta_fewpoints.specs.Laws.{IsSafeFor}
use Rattle.prta_fewpoints.proofs.Lists.{Each, Pairs, Each-weaker, Each_both, Each-map, AnyOf_gives, Pairs-from_increasing, size-map}
use Rattle.prta_fewpoints.proofs.Covers.{IsTime, cover_within}
use Rattle.prta_fewpoints.proofs.Reduction.{wide_rises, choice_covers, times_merged, kept_cheapest}
use Rattle.prta_fewpoints.proofs.Moved.{choices_safe}

-- a chosen time stays
chosen_stay : (chosen : List ℕ) → Pairs (λ a b. a < b) chosen → Each (λ c. moved_to chosen c ≡ c) chosen
chosen_stay [] up = tt
chosen_stay (c ∷ chosen) up = (
  cond-true (nat_le c c) c (moved_to chosen c) (le-leb c c (omega arith)),
  Each_both (λ d. c < d) (λ d. moved_to chosen d ≡ d) (λ d. moved_to (c ∷ chosen) d ≡ d) (λ d l h. cond-false (nat_le d c) c (moved_to chosen d) (lt-leb d c l) ∙ h) chosen up.0 (chosen_stay chosen up.1),
)

-- and so has its own weight at least
own_weight : (chosen : List ℕ) (c : ℕ) (wide : Table) → moved_to chosen c ≡ c → Each (λ pair. 0 < pair.1) wide → IsTime wide c → 0 < weight_at chosen wide c
own_weight chosen c [] stays h t = absurd t
own_weight chosen c (pair ∷ wide) stays h t =
    let sums : List (ℕ × ℕ) → ℕ = λ ps. sum_by (λ (p : ℕ × ℕ). p.1) ps in
    let kept : Table = filter (λ (p : ℕ × ℕ). nat_eq (moved_to chosen p.0) c) wide in
    ⊎_elim
    (λ (e : pair.0 ≡ c).
    let hit : nat_eq (moved_to chosen pair.0) c ≡ true = eq-eqb (moved_to chosen pair.0) c (ap (moved_to chosen) e ∙ stays) in
    subst (λ b. 0 < sums (cond b (pair ∷ kept) kept)) (sym hit) (omega (arith, sum_by-cons (λ (p : ℕ × ℕ). p.1) pair kept, h.0)))
    (λ (t' : IsTime wide c).
    let rest : 0 < sums kept = own_weight chosen c wide stays h.1 t' in
    cond_both (nat_eq (moved_to chosen pair.0) c) (pair ∷ kept) kept (λ ps. 0 < sums ps) (λ e. omega (arith, sum_by-cons (λ (p : ℕ × ℕ). p.1) pair kept, rest)) (λ e. rest))
    t

pub reduced_table : (wide : Table) (k : ℕ) → IsWide wide → 0 < k → k ≤ POINT_LIMIT → IsTable (reduced wide k)
reduced_table wide k w pos few =
    let chosen : List ℕ = kept_times wide k in
    let c : IsChoice wide k chosen = (kept_cheapest wide k (wide_rises wide w) w.some pos).choice in
    let rising : Pairs (λ a b. a < b) chosen = Pairs-from_increasing chosen c.rising in
    let within : Each (IsTime wide) chosen = cover_within chosen wide (choice_covers wide k chosen (wide_rises wide w) c) in
    let safe : IsSafeFor wide (reduced wide k) = choices_safe wide k chosen w c in
    let size : length (reduced wide k) ≡ min k (length wide) = size-map (λ time. (time, weight_at chosen wide time)) chosen ∙ c.count in
    let made : ℕ → ℕ × ℕ = λ time. (time, weight_at chosen wide time) in
    let some : 0 < length wide = w.some in
    let positive : All (λ pair. 0 < pair.1) (reduced wide k) =
    All-from_recursion (λ (pair : ℕ × ℕ). 0 < pair.1) (reduced wide k)
    (Each-map made (λ (pair : ℕ × ℕ). 0 < pair.1) chosen
    (Each_both (λ time. moved_to chosen time ≡ time) (IsTime wide) (λ time. 0 < weight_at chosen wide time)
    (λ time stays is. own_weight chosen time wide stays (recursion_from_All (λ (pair : ℕ × ℕ). 0 < pair.1) wide w.positive_weights) is)
    chosen (chosen_stay chosen rising) within)) in
    record {
      some = omega (arith, size, some);
      few = omega (arith, size, few);
      positive_times = All-from_recursion (λ (pair : ℕ × ℕ). 0 < pair.0) (reduced wide k)
          (Each-map made (λ (pair : ℕ × ℕ). 0 < pair.0) chosen
          (Each-weaker (IsTime wide) (λ time. 0 < time) (λ time is.
          AnyOf_gives (λ (pair : ℕ × ℕ). 0 < pair.0) (λ (pair : ℕ × ℕ). pair.0 ≡ time) (0 < time) wide (recursion_from_All (λ (pair : ℕ × ℕ). 0 < pair.0) wide w.positive_times) is (λ pair l e. omega arith)) chosen within));
      increasing = subst IsStrictlyIncreasing (sym (times_merged chosen wide)) c.rising;
      positive_weights = positive;
      weighs = total_positive (reduced wide k) (omega (arith, size, some)) positive;
      limited = omega (arith, safe.same_total, w.limited);
    }
