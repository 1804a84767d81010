use Rattle.prta_sheet.proofs.Multiples.{copies_have_their_table}
use Rattle.prta_sheet.proofs.model.copies_have_their_table.Goals as goal

pub returns : goal.returns
returns c = copies_have_their_table
