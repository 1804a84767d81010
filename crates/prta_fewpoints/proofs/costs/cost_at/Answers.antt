use Rattle.std.proofs.Common.{arith}
use Rattle.prta_fewpoints.proofs.Steps.{cost_fits}
use Rattle.prta_fewpoints.proofs.costs.cost_at.Goals as goal

pub returns-clause-low : goal.returns-clause-low
returns-clause-low c =
    cost_fits c.args.count c.args.start c.args.pairs.now _ c.requires.wide c.requires.short (c.requires.costs c.args.count c.args.start c.requires.within (omega (arith, c.requires.rows, c.requires.within)))
