use Rattle.std.proofs.Common.{ℕ, arith, take}
use Rattle.std.proofs.lemmas.List.Sums.{sum_by_more_le}
use Rattle.prta_fewpoints.proofs.Steps.{weight_low}
use Rattle.prta_fewpoints.proofs.merging.weight_at.Goals as goal

pub overflow_add-weight : goal.overflow_add-weight
overflow_add-weight c =
    let i = c.loop-pair.pair-index in
    let pairs = c.args.pairs.now in
    omega (arith, c.loop-pair.invariant, weight_low c.args.chosen.now (take i pairs) c.args.time, sum_by_more_le (λ (pair : ℕ × ℕ). pair.1) pairs i (0, 0) c.loop-pair-test.true, c.requires)
