use Rattle.std.proofs.Common.{◌≡◌, ℕ, ◌%◌, ◌≤◌, length, take, ap, arith}
use Rattle.std.proofs.lemmas.List.{length-take-le}
use Rattle.std.proofs.Math.Nat.{mod-lt}
use Rattle.prta_sheet.proofs.Cycles.{first_bound}
use Rattle.prta_sheet.proofs.work.points_of_first.Goals as goal

pub returns-clause-bound : goal.returns-clause-bound
returns-clause-bound c =
    let size : ℕ = length c.cycle-cycle.result.now in
    let some : 1 ≤ size = omega (arith, c.requires.some, ap length c.cycle-cycle.ensures) in
    let low = mod-lt c.args.n some in
    let part : length (take (c.args.n % size) c.cycle-cycle.result.now) ≡ c.args.n % size = length-take-le (c.args.n % size) c.cycle-cycle.result.now (omega arith) in
    first_bound c.args.n size c.points_of_tables.result c.points_of_tables-rest.result c.points_of_tables.ensures.bound (omega (arith, c.points_of_tables-rest.ensures.bound, part))
