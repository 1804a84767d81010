use Rattle.std.proofs.Common.{◌≡◌, ◌≢◌, None, Some, Option, IfOk, IfErr, IsOk, sym, ◌∙◌, subst}
use Rattle.toml.specs.View.{table_view}
use Rattle.prta_sheet.specs.declared.fault.SheetFault.{SheetFault}
use Rattle.prta_sheet.specs.declared.fault.SheetFault.TheVariants.{NoMemory}
use Rattle.prta_sheet.specs.Sheet.{Sheet}
use Rattle.prta_sheet.proofs.ReadsStated.{read_as_stated}
use Rattle.prta_sheet.proofs.reading.sheet_of.Goals as goal

pub returns-clause-stated : goal.returns-clause-stated
returns-clause-stated c =
    let same = read_as_stated (table_view c.args.document.now) (sym c.document_fault.ensures ∙ c.in_default.is) in
    subst (λ (s : Sheet). IfOk c.read.result (λ sheet. sheet ≡ s)) same.0 c.read.ensures.read

pub returns-clause-accepted : goal.returns-clause-accepted
returns-clause-accepted c =
    let same = read_as_stated (table_view c.args.document.now) (sym c.document_fault.ensures ∙ c.in_default.is) in
    subst (λ (o : Option SheetFault). IsOk c.read.result → o ≡ None) same.1 c.read.ensures.accepted

pub returns-clause-refused : goal.returns-clause-refused
returns-clause-refused c =
    let same = read_as_stated (table_view c.args.document.now) (sym c.document_fault.ensures ∙ c.in_default.is) in
    subst (λ (o : Option SheetFault). IfErr c.read.result (λ fault. fault ≢ NoMemory → o ≡ Some fault)) same.1 c.read.ensures.refused
