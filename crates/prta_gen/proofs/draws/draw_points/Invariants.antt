-- with the points that are left these are all points
use Rattle.std.proofs.Common.{◌≡◌, ◌-◌, ◌*◌, ◌≤◌, ◌++◌}
use Rattle.prta_gen.specs.Generator.{state_after, points_from}
use Rattle.prta_gen.proofs.draws.draw_points.Given as goal

abbrev pub invariant-loop : goal.invariant-loop
invariant-loop l = record {
  time : l.time ≤ 3 * l.counter;
  points : l.points.items ++ points_from (l.count - l.counter) l.time l.draws.state ≡ points_from l.count 0 l.initial.draws.state;
  state : state_after (2 * (l.count - l.counter)) l.draws.state ≡ state_after (2 * l.count) l.initial.draws.state;
}
