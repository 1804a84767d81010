-- Each step raises the cells from its place on.
use Rattle.std.proofs.Common.{◌∙◌, rules, length, get_or}
use Rattle.prta_certificate.proofs.Stepping.{step_here, step_rises, cells_more}
use Rattle.prta_certificate.proofs.steps.load_steps.Goals as goal

pub raise-requires-in-loop-place-clause-rising : goal.raise-requires-in-loop-place-clause-rising
raise-requires-in-loop-place-clause-rising g c =
    let here = step_here c.points-place-items.result.now c.args.steps.now c.loop-place.place-index c.points-place-items.ensures.points c.loop-place-test.true in
    step_rises c.args.steps.now c.points-place-items.ensures.steps c.loop-place.place-index (get_or c.points-place-items.result.now c.loop-place.place-index (0, 0)) here.0 here.1
    (length (g.C.Curve.cells c.args.bench.now.main)) c.requires (g.C.Curve.cells c.loop-place.bench.main) c.loop-place.invariant.main

pub loop-place-preserved : goal.loop-place-preserved
loop-place-preserved g c =
    let here = step_here c.points-place-items.result.now c.args.steps.now c.loop-place.place-index c.points-place-items.ensures.points c.loop-place-test.true in
    record {
      main = c.raise-in-loop-place.ensures.cells
          ∙ cells_more c.args.steps.now c.points-place-items.ensures.steps c.loop-place.place-index (get_or c.points-place-items.result.now c.loop-place.place-index (0, 0)) here.0 here.1
          (length (g.C.Curve.cells c.args.bench.now.main)) c.requires (g.C.Curve.cells c.loop-place.bench.main) c.loop-place.invariant.main;
      others = search rules;
    }
