-- The law of starts used once: two numbers around an exact chance, without a sum over assignments.
use Rattle.std.proofs.Common.{◌≡◌, ℕ, zero, suc, ◌<◌, None, nat_lt, [], ◌∷◌, All, length, refl, subst, arith}
use Rattle.std.proofs.lemmas.Bool.Decides.{nat_tests}
use Rattle.std.proofs.lemmas.List.Elements.{All-from_recursion}
use Rattle.prta_mass.specs.Table.{IsTable}
use Rattle.prta_mass.specs.declared.direction.Dir.TheVariants.{Up, Down}
use Rattle.prta_mass.specs.declared.table.TheConstants.{POINT_LIMIT}
use Rattle.prta_mass.proofs.Faults.{IsTable-from_none}
use Rattle.prta_sheet.specs.Sheet.{Task}
use Rattle.prta_sheet.specs.Job.{nth_job}
use Rattle.prta_sheet.specs.Machine.{place}
use Rattle.prta_sheet.specs.Chance.{IsAround}
use Rattle.prta_backlog.specs.Worked.{below}
use Rattle.prta_response.specs.Chance.{IsOrderFor}
use Rattle.prta_response.specs.Laws.{IsPeriodic, IsLevelOf, LawOfStarts, PointsBoundBacklogs}
use Rattle.prta_response.specs.Worked.{even, number, eighth, WorkedResponses, WorkedLaw}
use Rattle.prta_response.proofs.Around.{around}

level_is : IsLevelOf (even 7) below
level_is = record {
  tables = record {
    some = All-from_recursion (λ (task : Task). 0 < length task.cycle) (even 7) (omega arith, (omega arith, tt));
    tables = All-from_recursion (λ (task : Task). All IsTable task.cycle) (even 7)
        (All-from_recursion IsTable (((1, 1) ∷ (2, 1) ∷ []) ∷ []) (IsTable-from_none POINT_LIMIT _ refl, tt), (All-from_recursion IsTable (((2, 1) ∷ (4, 1) ∷ []) ∷ []) (IsTable-from_none POINT_LIMIT _ refl, tt), tt));
  };
  periodic = All-from_recursion IsPeriodic (even 7) (record { offset = omega arith; deadline = omega arith }, (record { offset = omega arith; deadline = omega arith }, tt));
  own = omega arith;
  apart = refl;
}

fits : IsOrderFor (even 7) below (0 ∷ 1 ∷ [])
fits = record { permutation = refl; above = above }
  where
    above : (i : ℕ) → below.higher i ≡ nat_lt (place (0 ∷ 1 ∷ []) i) 1
    above zero = refl
    above (suc zero) = refl
    above (suc (suc i)) = grind (arith, nat_tests)

pub worked_law : LawOfStarts → PointsBoundBacklogs → WorkedResponses → WorkedLaw
worked_law law points worked =
    let numbers : IsAround (even 7) (0 ∷ 1 ∷ []) (nth_job (even 7) 1 0) (number Down (even 7)) (number Up (even 7)) = around law points (even 7) below None 12 level_is (omega arith) (0 ∷ 1 ∷ []) fits 0 in
    subst (λ lower. IsAround (even 7) (0 ∷ 1 ∷ []) (nth_job (even 7) 1 0) lower eighth) (worked.delayed Down)
    (subst (λ upper. IsAround (even 7) (0 ∷ 1 ∷ []) (nth_job (even 7) 1 0) (number Down (even 7)) upper) (worked.delayed Up) numbers)
