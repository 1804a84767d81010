-- Tables that are made of counted times.
use Rattle.std.proofs.Common.{◌≡◌, ℕ, ◌≤◌, length, get_or, All, Contains, arith}
use Rattle.std.proofs.lemmas.List.{length-map, get_or-map}
use Rattle.prta_mass.specs.Table.{Table, IsTable, times, FaultlessPairs}
use Rattle.prta_sheet.specs.declared.limits.TheConstants.{TIME_LIMIT}
use Rattle.prta_fewpoints.specs.Choices.{IsChoice}
use Rattle.prta_fewpoints.specs.Recursion.{reduced}
use Rattle.prta_fewpoints.specs.Laws.{ReductionIsOne, ReductionIsTable}
use Rattle.prta_times.specs.declared.points.Points.{Points}
use Rattle.prta_times.specs.declared.points.Points.TheVariants.{Every, AtMost}
use Rattle.prta_times.specs.Points.{table_by}
use Rattle.prta_times.specs.Parts.{CanMake}

-- what the crates below say of tables
pub record Relies : Type 0 where
  pub makes : FaultlessPairs
  pub one : ReductionIsOne
  pub tables : ReductionIsTable

module _ (relies : Relies) where
  pub made_table : (points : Points) (counted : Table) → CanMake points counted → IsTable (table_by points counted)
  made_table Every counted can = can
  made_table (AtMost k) counted can = relies.tables counted k can.wide can.some can.few

  -- a reduction has no other times
  pub made_short : (points : Points) (counted : Table) → CanMake points counted → All (λ pair. pair.0 ≤ TIME_LIMIT) counted → All (λ pair. pair.0 ≤ TIME_LIMIT) (table_by points counted)
  made_short Every counted can short = short
  made_short (AtMost k) counted can short = λ i d low.
      let table : Table = reduced counted k in
      let first : ℕ × ℕ → ℕ = λ pair. pair.0 in
      let choice : IsChoice counted k (times table) = ((relies.one counted k can.wide can.some).is).choice in
      let time : ℕ = get_or (times table) i 0 in
      let long : length (times table) ≡ length table = length-map table first in
      let wide : length (times counted) ≡ length counted = length-map counted first in
      let there : Contains (times counted) time = choice.within i 0 (omega (arith, low, long)) in
      let inside : there.0 ≤ length counted = omega (arith, there.1, wide) in
      omega (
        arith,
        get_or-map first table i d 0 low,
        there.2,
        get_or-map first counted there.0 d time (omega (arith, there.1, wide)),
        short there.0 d (omega (arith, there.1, wide)),
      )
