use Rattle.toml.specs.View.{table_view}
use Rattle.prta_sheet.specs.declared.conditions.Condition.TheVariants.{Listed, Needed, Kind, Range}
use Rattle.prta_sheet.specs.DocumentConditions.{format_fault, first_fault}
use Rattle.prta_sheet.proofs.FirstOf.{or_five}
use Rattle.prta_sheet.proofs.conditions.document_fault.Goals as goal

pub returns : goal.returns
returns c =
    let doc = table_view c.args.document.now in
    rw (c.or-4.ensures, c.or-3.ensures, c.or-2.ensures, c.or.ensures, c.format_fault.ensures, c.first_fault.ensures, c.first_fault-2.ensures, c.first_fault-3.ensures, c.first_fault-4.ensures)
    (or_five (format_fault doc) (first_fault Listed doc) (first_fault Needed doc) (first_fault Kind doc) (first_fault Range doc))
