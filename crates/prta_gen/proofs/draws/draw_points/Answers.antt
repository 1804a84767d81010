use Rattle.std.proofs.Common.{◌∙◌, arith}
use Rattle.prta_gen.proofs.States.{state_step, points_step}
use Rattle.prta_gen.proofs.draws.draw_points.Goals as goal

pub loop-preserved : goal.loop-preserved
loop-preserved c =
    let before = c.loop.invariant in
    let x = c.loop.draws.state in
    let y = c.draw.new.self.state in
    let z = c.draw-weight.new.self.state in
    record {
      time = omega arith;
      points = points_step c.args.count c.loop.counter x y z c.loop-test.true c.draw.ensures.state c.draw-weight.ensures.state c.loop.points.items c.push.new.self.items c.loop.time c.draw.result c.draw-weight.result c.draw.ensures.drawn c.draw-weight.ensures.drawn c.in_ok-push.ensures.items ∙ before.points;
      state = state_step c.args.count c.loop.counter x y z c.loop-test.true c.draw.ensures.state c.draw-weight.ensures.state ∙ before.state;
    }
