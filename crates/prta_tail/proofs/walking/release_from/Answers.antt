use Rattle.std.proofs.Common.{◌*◌, ◌^◌, ap, ◌∙◌, arith}
use Rattle.std.specs.Int.{div_ceil}
use Rattle.prta_tail.proofs.WalkSteps.{released_over, released_within}
use Rattle.prta_tail.proofs.walking.release_from.Goals as goal

pub returns-then-next : goal.returns-then-next
returns-then-next c walk is =
    released_over c.args.ratio c.args.table.now walk c.args.number c.div_ceil-next.result is (c.div_ceil-next.ensures ∙ ap (λ f. div_ceil (c.args.number * f) (2 ^ 32)) c.factor_of-factor.ensures.factor) (omega (arith, c.if-next.true))

pub returns-else-next : goal.returns-else-next
returns-else-next c walk is =
    released_within c.args.ratio c.args.table.now walk c.args.number c.div_ceil-next.result is (c.div_ceil-next.ensures ∙ ap (λ f. div_ceil (c.args.number * f) (2 ^ 32)) c.factor_of-factor.ensures.factor) (omega (arith, c.if-next.false))
