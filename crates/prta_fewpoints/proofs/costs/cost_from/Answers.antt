use Rattle.std.proofs.Common.{◌∙◌}
use Rattle.prta_fewpoints.proofs.Steps.{way_start, way_next, scan_start, cost_next}
use Rattle.prta_fewpoints.proofs.costs.cost_from.Goals as goal

pub loop-i-init : goal.loop-i-init
loop-i-init c =
    let none = c.nothing-gathered.ensures in
    record {
      least = scan_start c.args.count _ _ _ _ none.weight none.moved none.since;
      way = way_start c.args.pairs.now c.args.start _ _ c.requires.wide none.weight none.since;
    }

pub loop-i-preserved : goal.loop-i-preserved
loop-i-preserved c =
    let before = c.loop-i in
    let with = c.with-gathered.ensures in
    record {
      least = cost_next c.args.count c.args.pairs.now before.best before.gathered.weight before.gathered.moved before.gathered.since before.i _ _ _ _ _ _ _ c.loop-i-test.true
          c.at.ensures.cost c.cost_at.ensures.cost c.plus.ensures c.lesser-best.ensures with.weight with.moved with.since ∙ before.invariant.least;
      way = way_next c.args.pairs.now before.i _ _ _ _ c.requires.wide c.loop-i-test.true with.weight with.since before.invariant.way;
    }
