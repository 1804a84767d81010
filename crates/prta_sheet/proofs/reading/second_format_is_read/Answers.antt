use Rattle.prta_sheet.proofs.Formats.{second_format_is_read}
use Rattle.prta_sheet.proofs.reading.second_format_is_read.Goals as goal

pub returns : goal.returns
returns c = second_format_is_read
