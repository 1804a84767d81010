-- the points so far
use Rattle.std.proofs.Common.{◌≡◌, map, take}
use Rattle.prta_fewpoints.specs.Choices.{weight_at}
use Rattle.prta_fewpoints.proofs.merging.merged.Given as goal

abbrev pub invariant-loop-time : goal.invariant-loop-time
invariant-loop-time l = l.points.items ≡ map (λ time. (time, weight_at l.chosen l.pairs time)) (take l.time-index l.chosen)
