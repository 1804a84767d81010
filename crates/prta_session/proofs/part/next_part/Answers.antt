use Rattle.std.proofs.Common.{◌∷◌, ◌+◌, ℕ, List, take, ap, sym, ◌∙◌}
use Rattle.std.proofs.lemmas.List.{take_rest}
use Rattle.prta_session.specs.Text.{parts}
use Rattle.prta_session.proofs.Parts.{parts_at_place, parts_without_place}
use Rattle.prta_session.proofs.part.next_part.Goals as goal

pub returns-in-Some-clause-parts : goal.returns-in-Some-clause-parts
returns-in-Some-clause-parts c =
    let text : List ℕ = c.args.text.now in
    let end : ℕ = c.in-Some.end in
    parts_at_place c.args.byte text end (sym c.place_of.ensures ∙ c.in-Some.is)
    ∙ ap (λ rest. take end text ∷ parts c.args.byte rest) (sym (take_rest text (end + 1)))

pub returns-in-None-clause-parts : goal.returns-in-None-clause-parts
returns-in-None-clause-parts c = parts_without_place c.args.byte c.args.text.now (sym c.place_of.ensures ∙ c.in-None.is)
