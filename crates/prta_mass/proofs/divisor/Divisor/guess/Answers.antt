use Rattle.std.proofs.Common.{◌*◌, ◌<◌, ◌≤◌, ◌^◌, arith}
use Rattle.prta_mass.proofs.Near.{near_low, near_high, top_small}
use Rattle.prta_mass.proofs.divisor.Divisor.guess.Goals as goal

pub returns-clause-low : goal.returns-clause-low
returns-clause-low c = rw (c.args.self.reciprocal_is c.requires.four) (near_low c.args.sum (2 ^ c.args.self.right) c.args.self.total)

pub returns-clause-high : goal.returns-clause-high
returns-clause-high c =
    let four : 4 * 2 ^ c.args.self.right ≤ c.args.self.total = c.args.self.four c.requires.four in
    let eight : c.args.self.total < 8 * 2 ^ c.args.self.right = c.args.self.eight in
    let some : 0 < 2 ^ c.args.self.right = omega (arith, eight) in
    rw (c.args.self.reciprocal_is c.requires.four)
    (near_high c.args.sum (2 ^ c.args.self.right) c.args.self.total some (omega (arith, four, some)) (top_small c.args.sum (2 ^ c.args.self.right) c.args.self.total some c.requires.within eight) four)
