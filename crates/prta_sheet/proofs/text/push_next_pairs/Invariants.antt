-- the pairs so far
use Rattle.std.proofs.Common.{◌≡◌, ◌++◌, flat_map, take}
use Rattle.prta_sheet.specs.Canonical.{next_pair_text}
use Rattle.prta_sheet.proofs.text.push_next_pairs.Given as goal

abbrev pub invariant-loop-pair : goal.invariant-loop-pair
invariant-loop-pair l = l.text.items ≡ l.initial.text.items ++ flat_map next_pair_text (take l.pair-index l.pairs)
