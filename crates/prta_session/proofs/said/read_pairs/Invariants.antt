-- with the pairs of the words that are left these are all pairs
use Rattle.std.proofs.Common.{◌≡◌, ◌+◌, ◌++◌, option_map, length}
use Rattle.std.specs.Option.{option_map_or}
use Rattle.prta_session.specs.Text.{parts, parts_left}
use Rattle.prta_session.specs.Saying.{pairs_in}
use Rattle.prta_session.proofs.said.read_pairs.Given as goal

abbrev pub invariant-words : goal.invariant-words
invariant-words l = option_map (λ more. l.list.items ++ more) (pairs_in (parts_left 32 l.rest)) ≡ pairs_in (parts 32 l.fn.text)

abbrev pub decreases-words : goal.decreases-words
decreases-words l = option_map_or (λ text. length text.now + 1) l.rest 0
