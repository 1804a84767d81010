use Rattle.std.proofs.Common.{ap₂, sym, subst}
use Rattle.prta_cli.specs.Answer.{answer_to_seed}
use Rattle.prta_cli.specs.Ending.{EndsBy}
use Rattle.prta_cli.proofs.run.with_seed.Goals as goal

pub returns-clause-ends : goal.returns-clause-ends
returns-clause-ends g c =
    subst (λ answer. EndsBy c.bench.result answer (g.O.Sink.taken c.args.out.now) (g.O.Sink.taken c.bench.new.out)) (ap₂ answer_to_seed (sym c.in-Bench.is) c.in-Ok.ensures.sheet) c.bench.ensures.ends
