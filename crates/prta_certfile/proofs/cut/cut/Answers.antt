use Rattle.std.proofs.Common.{◌+◌, take, List, ℕ, Some, ap, sym, ◌∙◌}
use Rattle.std.proofs.lemmas.List.{take_rest}
use Rattle.prta_certfile.proofs.Cuts.{cut_by_place, cut_no_place}
use Rattle.prta_certfile.proofs.cut.cut.Goals as goal

pub returns-in-Some-clause-parts : goal.returns-in-Some-clause-parts
returns-in-Some-clause-parts c =
    let bytes : List ℕ = c.args.bytes.now in
    let k : ℕ = c.in-Some.end in
    ap (λ (rest : List ℕ). Some (take k bytes, rest)) (take_rest bytes (k + 1)) ∙ sym (cut_by_place c.args.byte bytes k (sym c.place_of.ensures ∙ c.in-Some.is))

pub returns-in-None-clause-parts : goal.returns-in-None-clause-parts
returns-in-None-clause-parts c = sym (cut_no_place c.args.byte c.args.bytes.now (sym c.place_of.ensures ∙ c.in-None.is))
