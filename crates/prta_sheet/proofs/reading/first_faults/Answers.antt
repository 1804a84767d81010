use Rattle.std.proofs.Common.{map, ap, sym, ◌∙◌}
use Rattle.prta_mass.specs.Table.{or_else}
use Rattle.prta_sheet.specs.SheetConditions.{table_fault}
use Rattle.prta_sheet.specs.Reading.{head_faults}
use Rattle.prta_sheet.proofs.ReadItems.{task_read}
use Rattle.prta_sheet.proofs.Heads.{head_faults_same}
use Rattle.prta_sheet.proofs.reading.first_faults.Goals as goal

pub returns-in-Some : goal.returns-in-Some
returns-in-Some c =
    let tables = c.args.tables.now in
    let heads = c.head_fault.ensures ∙ ap head_faults (c.deref.ensures.value ∙ c.in_ok-heads.ensures) ∙ head_faults_same task_read tables in
    sym (ap (λ o. or_else o (table_fault (map task_read tables))) (sym heads ∙ c.in-Some.is))

pub returns : goal.returns
returns c =
    let heads = c.head_fault.ensures ∙ ap head_faults (c.deref.ensures.value ∙ c.in_ok-heads.ensures) ∙ head_faults_same task_read c.args.tables.now in
    rw (sym heads ∙ c.in-None.is) c.first_table_fault.ensures
