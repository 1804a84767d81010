use Rattle.std.proofs.Common.{◌+◌, ◌-◌, ◌*◌, ◌<◌, ◌≤◌, arith}
use Rattle.prta_mass.proofs.Near.{rest_is}
use Rattle.prta_mass.proofs.divisor.Divisor.divide.Goals as goal

pub returns-then-rest-self-clause-rest : goal.returns-then-rest-self-clause-rest
returns-then-rest-self-clause-rest c =
    let low : c.guess-quotient.result * c.args.self.total ≤ c.args.sum = c.guess-quotient.ensures.low in
    let high : c.args.sum < (c.guess-quotient.result + 2) * c.args.self.total = c.guess-quotient.ensures.high in
    let more : c.args.self.total ≤ c.args.sum - c.guess-quotient.result * c.args.self.total = c.if-rest-self.true in
    rest_is c.args.sum (c.guess-quotient.result + 1) _ c.args.self.total (omega (arith, low, more)) (omega (arith, low, high, more))

pub returns-else-rest-self-clause-rest : goal.returns-else-rest-self-clause-rest
returns-else-rest-self-clause-rest c =
    let low : c.guess-quotient.result * c.args.self.total ≤ c.args.sum = c.guess-quotient.ensures.low in
    rest_is c.args.sum c.guess-quotient.result _ c.args.self.total (omega (arith, low)) c.if-rest-self.false
