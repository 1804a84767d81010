use Rattle.std.proofs.Common.{rules, ◌≡◌, sum_by, arith}
use Rattle.std.proofs.lemmas.List.Sums.{sum_by-le}
use Rattle.prta_mass.specs.Unit.{unit}
use Rattle.prta_dual.specs.declared.bounds.Bounds.{Bounds}
use Rattle.prta_writer.proofs.amounts.lower_sum.Goals as goal

pub returns-clause-small : goal.returns-clause-small
returns-clause-small c =
    let is : c.sum.result ≡ sum_by (λ (bounds : Bounds). bounds.lower) c.args.found.now = search rules in
    omega (arith, is, sum_by-le (λ (bounds : Bounds). bounds.lower) unit c.args.found.now c.requires.limit, c.requires.few)
