use Rattle.std.proofs.Common.{ℕ, nat_le, sym, ◌∙◌}
use Rattle.prta_times.proofs.WithWeight.{found_place, past_place}
use Rattle.prta_times.proofs.tally.place_of.Goals as goal

pub returns-in-Some : goal.returns-in-Some
returns-in-Some c = found_place (λ (pair : ℕ × ℕ). nat_le c.args.time pair.0) c.args.points.now c.in-Some.place (sym c.first_from.ensures ∙ c.in-Some.is)

pub returns-in-None : goal.returns-in-None
returns-in-None c = past_place (λ (pair : ℕ × ℕ). nat_le c.args.time pair.0) c.args.points.now (sym c.first_from.ensures ∙ c.in-None.is)
