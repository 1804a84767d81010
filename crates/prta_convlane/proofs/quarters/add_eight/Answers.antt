use Rattle.std.proofs.Common.{◌≡◌, ℕ, ◌+◌, ◌*◌, ap, arith, slice_index}
use Rattle.std.proofs.lemmas.List.{length-set}
use Rattle.prta_mass.specs.Unit.{unit}
use Rattle.prta_dist.specs.Addition.{weighted}
use Rattle.prta_convlane.specs.Limbs.{joined}
use Rattle.prta_convlane.proofs.Limbs.{quarters_join, weighted_within}
use Rattle.prta_convlane.proofs.Progress.{done_quotient}
use Rattle.prta_convlane.proofs.quarters.add_eight.Goals as goal

pub rounded_quotient-cell-requires : goal.rounded_quotient-cell-requires
rounded_quotient-cell-requires c =
    let j : ℕ = c.loop-j.j in
    let k : ℕ = c.args.k + j in
    omega (
      arith,
      c.quarter_sums.ensures.top j c.loop-j-test.true,
      c.quarter_sums.ensures.high j c.loop-j-test.true,
      c.quarter_sums.ensures.middle j c.loop-j-test.true,
      c.quarter_sums.ensures.low j c.loop-j-test.true,
      quarters_join c.args.points.now c.args.from.now k,
      weighted_within c.args.points.now c.args.from.now k c.requires.chances,
      ap (λ w. w * unit) c.requires.whole,
    )

pub loop-j-preserved : goal.loop-j-preserved
loop-j-preserved c =
    let j : ℕ = c.loop-j.j in
    let k : ℕ = c.args.k + j in
    let cell : ℕ = c.rounded_quotient-cell.result.0 in
    let sum : ℕ = joined (slice_index c.quarter_sums.result.0 j) (slice_index c.quarter_sums.result.1 j) (slice_index c.quarter_sums.result.2 j) (slice_index c.quarter_sums.result.3 j) in
    let sum_is : sum ≡ weighted c.args.points.now c.args.from.now k =
    omega (
      arith,
      c.quarter_sums.ensures.top j c.loop-j-test.true,
      c.quarter_sums.ensures.high j c.loop-j-test.true,
      c.quarter_sums.ensures.middle j c.loop-j-test.true,
      c.quarter_sums.ensures.low j c.loop-j-test.true,
      quarters_join c.args.points.now c.args.from.now k,
    ) in
    record {
      same = omega (arith, c.loop-j.invariant.same, length-set c.loop-j.to k cell);
      done = done_quotient c.args.dir c.args.points.now c.args.from.now c.loop-j.to k (c.args.k + (j + 1)) cell sum c.args.divisor.total c.loop-j.rounded c.rounded_quotient-cell.result.1
          (omega (arith, c.requires.room)) c.loop-j.invariant.same (omega arith) sum_is c.requires.whole c.rounded_quotient-cell.ensures.cell c.rounded_quotient-cell.ensures.rest c.loop-j.invariant.done;
    }
