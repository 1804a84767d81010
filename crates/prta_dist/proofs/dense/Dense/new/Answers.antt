use Rattle.std.proofs.Common.{◌≡◌, replicate, rules, ◌∙◌}
use Rattle.prta_mass.specs.Unit.{unit}
use Rattle.prta_dist.proofs.Stores.{filled_is_point}
use Rattle.prta_dist.proofs.dense.Dense.new.Goals as goal

pub returns : goal.returns
returns g c =
    let filled : c.in_ok-cells.cells.items ≡ replicate c.args.cap unit = search rules in
    filled ∙ filled_is_point c.args.cap
