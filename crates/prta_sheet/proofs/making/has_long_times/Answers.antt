use Rattle.std.proofs.Common.{◌≡◌, None, false, [], sym, arith}
use Rattle.std.proofs.lemmas.List.Elements.{All-from_get_or}
use Rattle.std.proofs.lemmas.List.Folds.{list_any_none}
use Rattle.prta_mass.specs.Table.{Table, fault_of}
use Rattle.prta_sheet.specs.SheetConditions.{has_long_time}
use Rattle.prta_sheet.proofs.making.has_long_times.Goals as goal

pub returns-clause-value : goal.returns-clause-value
returns-clause-value c =
    let tables = c.args.tables.now in
    sym (list_any_none has_long_time tables (All-from_get_or (λ table. has_long_time table ≡ false) tables [] (λ k low. c.loop-table.invariant.short k (omega arith))))

pub returns-clause-made : goal.returns-clause-made
returns-clause-made c = λ none. All-from_get_or (λ (table : Table). fault_of table ≡ None) c.args.tables.now [] (λ k low. c.loop-table.invariant.made k (omega arith))
