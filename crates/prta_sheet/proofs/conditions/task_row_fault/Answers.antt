use Rattle.std.proofs.Common.{sym}
use Rattle.prta_sheet.proofs.FirstOf.{first_of_six}
use Rattle.prta_sheet.proofs.conditions.task_row_fault.Goals as goal

pub returns : goal.returns
returns c =
    rw (c.or-5.ensures, c.or-4.ensures, c.or-3.ensures, c.or-2.ensures, c.or.ensures, sym c.row.ensures, sym c.row-2.ensures, sym c.row-3.ensures, sym c.row-4.ensures, sym c.tables_row.ensures, sym c.row-5.ensures)
    (first_of_six c.row.result c.row-2.result c.row-3.result c.row-4.result c.tables_row.result c.row-5.result)
