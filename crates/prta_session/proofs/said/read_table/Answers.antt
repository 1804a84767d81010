use Rattle.std.proofs.Common.{◌∷◌, ap, sym, ◌∙◌}
use Rattle.prta_session.specs.Text.{parts_left}
use Rattle.prta_session.specs.Saying.{table_in}
use Rattle.prta_session.proofs.Sayings.{table_is}
use Rattle.prta_session.proofs.said.read_table.Goals as goal

pub returns-in-Some-2 : goal.returns-in-Some-2
returns-in-Some-2 c =
    let index = c.next_part.result.0.now in
    sym (
    ap table_in c.next_part.ensures.parts
    ∙ ap (λ rest. table_in (index ∷ parts_left 32 rest)) c.in-Some.is
    ∙ table_is index c.in-Some.rest.now c.in-Some-number_within.index c.in-Some-2.pairs (sym c.in-Some-number_within.ensures.number) (sym c.in_ok-pairs.ensures ∙ c.in-Some-2.is)
    )
