use Rattle.std.proofs.Common.{◌∷◌, ap, sym, ◌∙◌}
use Rattle.prta_session.specs.Text.{parts_left}
use Rattle.prta_session.specs.Saying.{two_in}
use Rattle.prta_session.proofs.Sayings.{two_left}
use Rattle.prta_session.proofs.said.read_two.Goals as goal

pub returns-then-is_some-clause-numbers : goal.returns-then-is_some-clause-numbers
returns-then-is_some-clause-numbers c =
    let most = c.args.most in
    let byte = c.args.byte in
    let first = c.next_part.result.0.now in
    let second = c.next_part-2.result.0.now in
    sym (
    ap (two_in most) c.next_part.ensures.parts
    ∙ ap (λ rest. two_in most (first ∷ parts_left byte rest)) c.in_ok-rest.was
    ∙ ap (λ words. two_in most (first ∷ words)) c.next_part-2.ensures.parts
    ∙ two_left most byte first second c.next_part-2.result.1 (sym c.is_some.ensures ∙ c.if-is_some.true)
    )
