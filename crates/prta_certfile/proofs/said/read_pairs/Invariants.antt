-- with the steps of the words that are left these are all steps
use Rattle.std.proofs.Common.{◌≡◌, ◌+◌, ◌++◌, option_map, length}
use Rattle.std.specs.Option.{option_map_or}
use Rattle.prta_certfile.specs.Reading.{steps_said, words}
use Rattle.prta_certfile.specs.Parts.{words_left}
use Rattle.prta_certfile.proofs.said.read_pairs.Given as goal

abbrev pub invariant-words : goal.invariant-words
invariant-words l = option_map (λ more. l.pairs.items ++ more) (steps_said (words_left l.rest)) ≡ steps_said (words l.fn.text)

abbrev pub decreases-words : goal.decreases-words
decreases-words l = option_map_or (λ text. length text.now + 1) l.rest 0
