use Rattle.std.proofs.Common.{ap, sym, ◌∙◌, codes}
use Rattle.toml.specs.View.{table_view}
use Rattle.prta_mass.specs.Table.{or_else}
use Rattle.prta_sheet.specs.declared.fault.Place.TheVariants as place
use Rattle.prta_sheet.specs.Document.{table_at, array_at}
use Rattle.prta_sheet.specs.Format.{top_rows, support_rows}
use Rattle.prta_sheet.specs.DocumentConditions.{first_of, fault_in, format_of, spot, all_task_spots}
use Rattle.prta_sheet.proofs.FirstOf.{or_three, first_of_append}
use Rattle.prta_sheet.proofs.conditions.first_fault.Goals as goal

pub returns : goal.returns
returns c =
    let f = fault_in c.args.condition in
    let doc = table_view c.args.document.now in
    let top = f (record { at = place.Top; rows = top_rows; table = doc }) in
    let support = spot place.Support (λ table. support_rows) (table_at (codes "support") doc) in
    let tasks = all_task_spots (format_of doc) (array_at (codes "task") doc) in
    rw (c.or-2.ensures, c.or.ensures, c.top_fault.ensures, c.support_fault.ensures, c.tasks_fault.ensures)
    (or_three top (first_of f support) (first_of f tasks) ∙ ap (or_else top) (sym (first_of_append f support tasks)))
