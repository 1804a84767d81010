use Rattle.std.proofs.Common.{◌≡◌, suc, ◌-◌, drop, ap, ◌∙◌, arith}
use Rattle.prta_fewpoints.specs.Recursion.{least_cost}
use Rattle.prta_fewpoints.proofs.Steps.{row_0_inside}
use Rattle.prta_fewpoints.proofs.costs.cost_of.Goals as goal

pub returns-else-start-pairs : goal.returns-else-start-pairs
returns-else-start-pairs c = row_0_inside c.args.pairs.now c.args.count c.args.start c.if-count-eq0.true (omega (arith, c.if-start-pairs.false, c.requires.within))

pub returns : goal.returns
returns c =
    let next : suc (c.args.count - 1) ≡ c.args.count = omega (arith, c.if-count-eq0.false) in
    c.cost_from.ensures ∙ ap (λ k. least_cost k (drop c.args.start c.args.pairs.now)) next
