use Rattle.std.proofs.Common.{sym, ◌∙◌}
use Rattle.prta_fewpoints.proofs.Steps.{way_start, way_next, scan_start, pick_start, place_passed}
use Rattle.prta_fewpoints.proofs.keeping.next_place.Goals as goal

pub loop-i-init : goal.loop-i-init
loop-i-init c =
    let none = c.nothing-gathered.ensures in
    record {
      picked = pick_start c.args.left _ _ _ _ _ c.cost_from-goal.ensures none.weight none.moved none.since;
      least = scan_start c.args.left _ _ _ _ none.weight none.moved none.since ∙ sym c.cost_from-goal.ensures;
      way = way_start c.args.pairs.now c.args.start _ _ c.requires.wide none.weight none.since;
    }

pub loop-i-preserved : goal.loop-i-preserved
loop-i-preserved c =
    let before = c.loop-i in
    let with = c.with-gathered.ensures in
    let passed = place_passed c.args.left c.args.pairs.now c.cost_from-goal.result before.gathered.weight before.gathered.moved before.gathered.since before.i _ _ _ _ _ _ c.loop-i-test.true c.at.ensures.cost c.cost_at.ensures.cost
    c.plus-cost.ensures (sym c.if-reaches.false ∙ c.reaches.ensures) with.weight with.moved with.since in
    record {
      picked = passed.picked ∙ before.invariant.picked;
      least = passed.least before.invariant.least;
      way = way_next c.args.pairs.now before.i _ _ _ _ c.requires.wide c.loop-i-test.true with.weight with.since before.invariant.way;
    }
