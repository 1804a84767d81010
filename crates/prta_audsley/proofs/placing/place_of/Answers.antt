use Rattle.std.proofs.Common.{ℕ, nat_eq, Option, length, ap, ◌∙◌}
use Rattle.std.specs.Option.{unwrap_or}
use Rattle.prta_ticksim.proofs.Positions.{position_else_length}
use Rattle.prta_audsley.proofs.placing.place_of.Goals as goal

pub returns : goal.returns
returns c =
    c.unwrap_or.ensures ∙ ap (λ (place : Option ℕ). unwrap_or place (length c.args.order.now)) c.first_place.ensures ∙ position_else_length (λ other. nat_eq other c.args.task) c.args.order.now
