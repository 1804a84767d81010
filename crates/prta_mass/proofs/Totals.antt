-- The total of a table.
use Rattle.std.proofs.Common.{ℕ, ◌<◌, [], ◌∷◌, length, All, arith}
use Rattle.std.proofs.lemmas.List.Sums.{sum_by-cons}
use Rattle.prta_mass.specs.Table.{Table, total}

-- where there are weights and none is 0, the total is above 0
pub total_positive : (pairs : Table) → 0 < length pairs → All (λ pair. 0 < pair.1) pairs → 0 < total pairs
total_positive [] some weigh = absurd (omega (arith, some))
total_positive (pair ∷ pairs) some weigh = omega (arith, sum_by-cons (λ (p : ℕ × ℕ). p.1) pair pairs, weigh 0 pair (omega arith))
