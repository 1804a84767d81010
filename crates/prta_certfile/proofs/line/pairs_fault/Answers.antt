use Rattle.std.proofs.Common.{sym, ◌∙◌}
use Rattle.prta_certfile.proofs.Faults.{steps_pass}
use Rattle.prta_certfile.proofs.line.pairs_fault.Goals as goal

pub returns-clause-steps : goal.returns-clause-steps
returns-clause-steps c = λ none. steps_pass c.args.pairs.now (sym c.rise.ensures ∙ c.if-not-rise.false) (sym c.are_whole.ensures ∙ c.if-not-are_whole.false)
