-- the chosen times so far are below the time
use Rattle.std.proofs.Common.{◌≡◌, drop}
use Rattle.prta_fewpoints.specs.Choices.{moved_to}
use Rattle.prta_fewpoints.proofs.merging.moved_to.Given as goal

abbrev pub invariant-loop-c : goal.invariant-loop-c
invariant-loop-c l = moved_to (drop l.c-index l.chosen) l.time ≡ moved_to l.chosen l.time
