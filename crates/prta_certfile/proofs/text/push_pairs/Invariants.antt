-- the steps so far
use Rattle.std.proofs.Common.{◌≡◌, ◌++◌, flat_map, take}
use Rattle.prta_certfile.specs.Text.{pair_text}
use Rattle.prta_certfile.proofs.text.push_pairs.Given as goal

abbrev pub invariant-loop-step : goal.invariant-loop-step
invariant-loop-step l = l.text.items ≡ l.initial.text.items ++ flat_map pair_text (take l.step-index l.steps)
