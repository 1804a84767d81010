use Rattle.std.proofs.Common.{arith, ap}
use Rattle.prta_mass.specs.Table.{total}
use Rattle.prta_times.proofs.WithWeight.{total_grows}
use Rattle.prta_times.proofs.tally.Tally.add.Goals as goal

pub invariant_of-self-2 : goal.invariant_of-self-2
invariant_of-self-2 c = omega (arith, c.self.invariant, ap total c.in_ok-add_to.ensures.added, total_grows c.args.time c.args.weight c.self.inside.points.items)

pub returns-clause-weighs : goal.returns-clause-weighs
returns-clause-weighs c = omega (arith, ap total c.in_ok-add_to.ensures.added, total_grows c.args.time c.args.weight c.self.inside.points.items, ap total c.self.view_is)
