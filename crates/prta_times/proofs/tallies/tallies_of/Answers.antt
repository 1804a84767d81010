use Rattle.std.proofs.Common.{◌∙◌, ap, sym, arith}
use Rattle.prta_times.specs.Counts.{counted}
use Rattle.prta_times.specs.Parts.{within_limit}
use Rattle.prta_times.proofs.Counting.{too_many_here, none_too_many}
use Rattle.prta_times.proofs.tallies.tallies_of.Goals as goal

pub returns-in-None-clause-refused : goal.returns-in-None-clause-refused
returns-in-None-clause-refused c = λ other.
    too_many_here c.args.points c.args.tasks.now c.args.counts.now c.loop-i.i c.index-tasks-i.result c.as_bytes.result.now c.loop-i-test.true c.index-tasks-i.is
    (c.as_bytes.ensures.value ∙ c.name.ensures) (sym c.in-None.is ∙ c.in_ok-tally.ensures ∙ ap (λ most. within_limit most (counted c.as_bytes.result.now c.args.counts.now)) c.most_times-most.ensures) c.loop-i.invariant.few

pub returns-clause-accepted : goal.returns-clause-accepted
returns-clause-accepted c = λ ok. none_too_many c.args.points c.args.tasks.now c.args.counts.now (λ k low. c.loop-i.invariant.few k (omega arith))
