use Rattle.prta_sheet.proofs.RefusedSheets.{refused_sheets}
use Rattle.prta_sheet.proofs.reading.refused_sheets.Goals as goal

pub returns : goal.returns
returns c = refused_sheets
