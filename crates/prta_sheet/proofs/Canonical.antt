-- The canonical text of a sheet states the sheet's document.
use Rattle.std.proofs.Common.{◌≡◌, suc, false, Some, [], length, refl, ap, ◌∙◌, arith}
use Rattle.std.proofs.lemmas.Str.{IsUtf8-from_ascii}
use Rattle.toml.specs.Tables.{no_nodes}
use Rattle.toml.specs.Parse.{skip_bom}
use Rattle.toml.proofs.Turns.{document_some}
use Rattle.toml.proofs.ReadLines.{read_lines}
use Rattle.prta_sheet.specs.Sheet.{Sheet}
use Rattle.prta_sheet.specs.Document.{document}
use Rattle.prta_sheet.specs.Canonical.{canonical_text, settings_text, number_line, document_of, IsStatable}
use Rattle.prta_sheet.proofs.Keys.{document_of_text}
use Rattle.prta_sheet.proofs.CanonicalLines.{sheet_lines, sheet_written}
use Rattle.prta_sheet.proofs.CanonicalDocument.{document_made}
use Rattle.prta_sheet.proofs.CanonicalAscii.{ascii}

no_mark : (sheet : Sheet) → skip_bom (canonical_text sheet) ≡ canonical_text sheet
unfolding skip_bom settings_text number_line
no_mark sheet = refl

pub read_back : (sheet : Sheet) → IsStatable sheet → document (canonical_text sheet) ≡ Some (document_of sheet)
read_back sheet small =
    let text = canonical_text sheet in
    let written = sheet_written sheet small in
    let made = document_made sheet small.some in
    let read = read_lines false false (sheet_lines sheet) text text (no_nodes, []) (suc (length text)) written.lines written.printed refl (omega arith) in
    document_of_text text (IsUtf8-from_ascii text (ascii sheet small))
    ∙ document_some text made.end (rw (no_mark sheet) (read ∙ made.ran))
    ∙ ap Some made.closes
