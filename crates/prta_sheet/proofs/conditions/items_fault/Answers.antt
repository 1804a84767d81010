use Rattle.std.proofs.Common.{◌+◌, ap, sym, ◌∙◌, arith}
use Rattle.prta_mass.specs.Table.{or_else}
use Rattle.prta_sheet.specs.DocumentConditions.{fault_in}
use Rattle.prta_sheet.proofs.Spots.{from, one_more, past}
use Rattle.prta_sheet.proofs.conditions.items_fault.Goals as goal

pub returns-in-Some : goal.returns-in-Some
returns-in-Some c =
    let f = fault_in c.args.condition in
    let format = c.args.format in
    let values = c.args.items.now.items in
    let i = c.loop-i.i in
    sym (c.loop-i.invariant ∙ one_more f format values i c.index.result.now (omega arith) c.index.ensures ∙ ap (λ o. or_else o (from f format values (i + 1))) (sym c.item_fault.ensures ∙ c.in-Some.is))

pub loop-i-preserved : goal.loop-i-preserved
loop-i-preserved c =
    let f = fault_in c.args.condition in
    let format = c.args.format in
    let values = c.args.items.now.items in
    let i = c.loop-i.i in
    c.loop-i.invariant ∙ one_more f format values i c.index.result.now (omega arith) c.index.ensures ∙ ap (λ o. or_else o (from f format values (i + 1))) (sym c.item_fault.ensures ∙ c.in_default.is)

pub returns : goal.returns
returns c = sym (c.loop-i.invariant ∙ past (fault_in c.args.condition) c.args.format c.args.items.now.items c.loop-i.i (omega arith))
