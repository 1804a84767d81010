use Rattle.std.proofs.Common.{◌≡◌, ℕ, ◌<◌, [], List, length, get_or, ap, sym, ◌∙◌, arith}
use Rattle.std.proofs.lemmas.List.{get_or_default}
use Rattle.prta_mass.specs.Table.{Table}
use Rattle.prta_mass.specs.Added.{with_added}
use Rattle.prta_sheet.proofs.added.put_added.Goals as goal

pub set_added-requires-clause-same : goal.set_added-requires-clause-same
set_added-requires-clause-same c =
    let i : ℕ = c.loop-i.i in
    let base : List Table = c.args.base.now in
    let low : i < length base = omega arith in
    let (r, same) = c.requires.same i low in
    let read : c.index-base-i.result ≡ get_or base i [] = c.index-base-i.is ∙ get_or_default base i _ [] low in
    (r, get_or_default c.loop-i.tables i _ [] (omega arith) ∙ c.loop-i.invariant.rest i (omega arith) ∙ same ∙ ap (λ (table : Table). with_added table r) (sym read))
