-- The points of a task's first jobs.
use Rattle.std.proofs.Common.{◌≡◌, ℕ, zero, suc, ◌+◌, ◌*◌, ◌/◌, ◌%◌, ◌<◌, ◌≤◌, List, [], length, slice_index_or, take, sum_by, refl, ap, arith, inl, inr, mul-le-mul_left}
use Rattle.std.proofs.lemmas.Bool.{cases_lt}
use Rattle.std.proofs.lemmas.List.{take_all}
use Rattle.std.proofs.lemmas.List.Sums.{sum_by_more}
use Rattle.std.proofs.lemmas.Nat.{div-mul-add, mod-mul-add}
use Rattle.std.proofs.Math.Nat.{div-add-mod', zero-div, zero-mod, mod-lt}
use Rattle.prta_mass.specs.Table.{Table}
use Rattle.prta_sheet.specs.Sheet.{Task, table_in}
use Rattle.prta_sheet.specs.Work.{points_of_first}
use Rattle.prta_sheet.proofs.Below.{sum_below}

module _ (cycle : List Table) (some : 1 ≤ length cycle) where
  abbrev first : ℕ → ℕ
  first n = n / length cycle * sum_by length cycle + sum_by length (take (n % length cycle) cycle)

  first_at : (q r : ℕ) → r < length cycle → first (q * length cycle + r) ≡ q * sum_by length cycle + sum_by length (take r cycle)
  first_at q r low = rw (div-mul-add q (length cycle) r low, mod-mul-add q (length cycle) r low) refl

  -- one more job adds the points of its table
  one_more : (n : ℕ) → first (suc n) ≡ first n + length (slice_index_or cycle (n % length cycle) [])
  one_more n =
      let q : ℕ = n / length cycle in
      let r : ℕ = n % length cycle in
      let low : r < length cycle = mod-lt n some in
      let split : q * length cycle + r ≡ n = div-add-mod' n (length cycle) in
      let next : sum_by length (take (r + 1) cycle) ≡ sum_by length (take r cycle) + length (slice_index_or cycle r []) = sum_by_more length cycle r [] low in
      elim (cases_lt (r + 1) (length cycle)) [
        | inl inside ↦
            let at : suc n ≡ q * length cycle + (r + 1) = omega (arith, split) in
            omega (arith, ap first at, first_at q (r + 1) inside, next)
        | inr over ↦
            let at : suc n ≡ (q + 1) * length cycle + 0 = omega (arith, split) in
            let all : sum_by length (take (r + 1) cycle) ≡ sum_by length cycle = ap (sum_by length) (take_all (r + 1) cycle over) in
            omega (arith, ap first at, first_at (q + 1) 0 some, next, all)
      ]

pub points_first : (task : Task) → 1 ≤ length task.cycle → (n : ℕ) → sum_below (λ k. length (table_in task k)) n ≡ points_of_first task n
points_first task some zero = rw (zero-div (length task.cycle), zero-mod (length task.cycle)) (omega arith)
points_first task some (suc n) = omega (arith, points_first task some n, one_more task.cycle some n)

-- where no table has more than 32 points
pub first_bound : (n size all rest : ℕ) → all ≤ 32 * size → rest ≤ 32 * (n % size) → n / size * all + rest ≤ 32 * n
first_bound n size all rest few fewer = omega (arith, mul-le-mul_left (n / size) few, div-add-mod' n size, fewer)
