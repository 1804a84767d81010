use Rattle.std.proofs.Common.{◌≡◌, ◌≢◌, None, Some, IfOk, IfErr, IsOk, map, ap, sym, ◌∙◌, subst}
use Rattle.toml.specs.View.{table_view}
use Rattle.prta_sheet.specs.declared.fault.SheetFault.TheVariants.{NoMemory}
use Rattle.prta_sheet.specs.Sheet.{Sheet}
use Rattle.prta_sheet.specs.SheetConditions.{part_ranges, later_fault}
use Rattle.prta_sheet.proofs.ReadItems.{read_of_tables}
use Rattle.prta_sheet.proofs.ReadsInRange.{read_in_range}
use Rattle.prta_sheet.proofs.reading.read.Goals as goal

pub sheet_of_tables-requires : goal.sheet_of_tables-requires
sheet_of_tables-requires c =
    let doc = table_view c.args.document.now in
    let whole = read_of_tables doc c.settings_of.result c.deref.result.now c.settings_of.ensures (ap (map (λ t. table_view t.now)) c.deref.ensures.value ∙ c.in-Ok.ensures) in
    record { ranges = subst (λ (s : Sheet). part_ranges s ≡ None) (sym whole) (read_in_range doc c.requires) }

pub returns-in-Ok-clause-read : goal.returns-in-Ok-clause-read
returns-in-Ok-clause-read c =
    let whole = read_of_tables (table_view c.args.document.now) c.settings_of.result c.deref.result.now c.settings_of.ensures (ap (map (λ t. table_view t.now)) c.deref.ensures.value ∙ c.in-Ok.ensures) in
    subst (λ (s : Sheet). IfOk c.sheet_of_tables.result (λ sheet. sheet ≡ s)) whole c.sheet_of_tables.ensures.read

pub returns-in-Ok-clause-accepted : goal.returns-in-Ok-clause-accepted
returns-in-Ok-clause-accepted c =
    let whole = read_of_tables (table_view c.args.document.now) c.settings_of.result c.deref.result.now c.settings_of.ensures (ap (map (λ t. table_view t.now)) c.deref.ensures.value ∙ c.in-Ok.ensures) in
    subst (λ (s : Sheet). IsOk c.sheet_of_tables.result → later_fault s ≡ None) whole c.sheet_of_tables.ensures.accepted

pub returns-in-Ok-clause-refused : goal.returns-in-Ok-clause-refused
returns-in-Ok-clause-refused c =
    let whole = read_of_tables (table_view c.args.document.now) c.settings_of.result c.deref.result.now c.settings_of.ensures (ap (map (λ t. table_view t.now)) c.deref.ensures.value ∙ c.in-Ok.ensures) in
    subst (λ (s : Sheet). IfErr c.sheet_of_tables.result (λ fault. fault ≢ NoMemory → later_fault s ≡ Some fault)) whole c.sheet_of_tables.ensures.refused
