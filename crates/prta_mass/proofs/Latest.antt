-- The greatest time of a table.
use Rattle.std.proofs.Common.{◌≡◌, ℕ, ◌-◌, ◌<◌, ◌≤◌, length, get_or, All, ap, arith, ⊎_elim}
use Rattle.std.proofs.lemmas.List.{length-map, get_or-map}
use Rattle.std.proofs.lemmas.List.Kept.{AllPairs-from_increasing}
use Rattle.std.proofs.lemmas.Bool.{cases_lt}
use Rattle.prta_mass.specs.Table.{Table, times, greatest, IsTable}

-- every time is at most the greatest
pub times_low : (table : Table) → IsTable table → All (λ pair. pair.0 ≤ greatest table) table
times_low table is i d h =
    let n : ℕ = length table in
    let time : (j : ℕ) (e : ℕ × ℕ) → j < n → get_or (times table) j 0 ≡ (get_or table j e).0 = λ j e l. get_or-map (λ (p : ℕ × ℕ). p.0) table j e 0 l in
    ⊎_elim
    (λ (l : i < n - 1).
    let below : get_or (times table) i 0 < get_or (times table) (n - 1) 0 = AllPairs-from_increasing (times table) is.increasing i (n - 1) 0 l (omega (arith, length-map table (λ (p : ℕ × ℕ). p.0))) in
    omega (arith, below, time i d h, time (n - 1) (0, 0) (omega arith)))
    (λ (l : n - 1 ≤ i).
    let e : i ≡ n - 1 = omega arith in
    omega (arith, time i d h, time (n - 1) (0, 0) (omega arith), ap (λ j. get_or (times table) j 0) e))
    (cases_lt i (n - 1))
