use Rattle.std.proofs.Common.{sym, subst, ap, ◌∙◌, length, arith}
use Rattle.std.proofs.lemmas.List.{length_push}
use Rattle.prta_fewpoints.specs.Costs.{AreCosts}
use Rattle.prta_fewpoints.proofs.Places.{costs_push}
use Rattle.prta_fewpoints.proofs.costs.least_costs.Goals as goal

pub loop-at-preserved : goal.loop-at-preserved
loop-at-preserved c =
    let before = c.loop-at in
    let cost = c.cost_of-cost.result in
    record {
      costs = subst (AreCosts c.args.pairs.now) (sym c.in_ok-push.ensures.items) (costs_push c.args.pairs.now before.costs.items before.at cost before.invariant.costs before.invariant.size c.cost_of-cost.ensures);
      size = ap length c.in_ok-push.ensures.items ∙ omega (arith, length_push before.costs.items cost, before.invariant.size);
    }
