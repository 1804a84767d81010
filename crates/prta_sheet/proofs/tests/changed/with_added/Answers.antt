use Rattle.std.proofs.Common.{sym, ◌∙◌, arith}
use Rattle.prta_sheet.proofs.tests.changed.with_added.Goals as goal

pub set_added-requires-clause-same : goal.set_added-requires-clause-same
set_added-requires-clause-same c =
    let keeps = c.added_sheets.ensures c.args.base.now 0 0 c.room-most.ensures.accepted c.requires.task (omega arith) in
    (0, c.in_ok-sheet.ensures ∙ sym keeps.none)
