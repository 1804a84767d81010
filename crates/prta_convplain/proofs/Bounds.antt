-- Bounds of weighted sums.
use Rattle.std.proofs.Common.{◌≡◌, ℕ, ◌+◌, ◌-◌, ◌*◌, ◌^◌, ◌<◌, ◌≤◌, List, length, take, get_or, ap, ◌∙◌, sym, arith, mul-le-mul_right}
use Rattle.std.proofs.lemmas.List.Sums.{sum_by_more_le}
use Rattle.prta_mass.specs.Unit.{unit}
use Rattle.prta_mass.specs.Table.{Table, total}
use Rattle.prta_mass.specs.Chances.{at, before, IsChances}
use Rattle.prta_dist.specs.Addition.{weighted}
use Rattle.prta_dist.proofs.Cells.{at_cell}
use Rattle.prta_dist.proofs.Sums.{before_near}
use Rattle.prta_dist.proofs.Chances.{weighted_most}

-- the sum so far and one pair more
pub more_fits : (table : Table) (cells : List ℕ) (k i : ℕ) → IsChances cells → total table ≤ 281474976710656 → i < length table → (get_or table i (0, 0)).0 ≤ k → k < length cells →
    weighted (take i table) cells k + (get_or table i (0, 0)).1 * get_or cells (k - (get_or table i (0, 0)).0) 0 < 2 ^ 110
more_fits table cells k i chances limited inside near place =
    let pair : ℕ × ℕ = get_or table i (0, 0) in
    let more : weighted (take i table) cells k + pair.1 * before (at cells) k pair.0 ≤ weighted table cells k = sum_by_more_le (λ (p : ℕ × ℕ). p.1 * before (at cells) k p.0) table i (0, 0) inside in
    let value : pair.1 * before (at cells) k pair.0 ≡ pair.1 * get_or cells (k - pair.0) 0 =
    ap (λ x. pair.1 * x) (before_near (at cells) k pair.0 near) ∙ ap (λ x. pair.1 * x) (sym (at_cell cells (k - pair.0) 0 (omega arith))) in
    omega (arith, more, value, weighted_most table cells k chances, mul-le-mul_right unit limited)
