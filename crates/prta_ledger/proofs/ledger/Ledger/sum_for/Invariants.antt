-- the sum is that of the entries so far, each of which adds less than 2^64
use Rattle.std.proofs.Common.{◌≡◌, ◌*◌, ◌≤◌, take}
use Rattle.std.specs.Prelude.{sum_by}
use Rattle.prta_ledger.specs.Sums.{part_for}
use Rattle.prta_ledger.proofs.ledger.Ledger.sum_for.Given as goal

abbrev pub invariant-loop-entry : goal.invariant-loop-entry
invariant-loop-entry l = (l.sum ≡ sum_by (part_for l.task l.job) (take l.entry-index l.entry-items)) × (l.sum ≤ l.entry-index * 18446744073709551615)
