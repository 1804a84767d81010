-- the weight of the pairs so far
use Rattle.std.proofs.Common.{◌≡◌, take}
use Rattle.prta_fewpoints.specs.Choices.{weight_at}
use Rattle.prta_fewpoints.proofs.merging.weight_at.Given as goal

abbrev pub invariant-loop-pair : goal.invariant-loop-pair
invariant-loop-pair l = l.weight ≡ weight_at l.chosen (take l.pair-index l.pairs) l.time
