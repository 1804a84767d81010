-- The canonical text of an accepted sheet is accepted, and states that very sheet.
use Rattle.std.specs.Prelude.{◌≡◌, Some, None}
use Rattle.prta_sheet.specs.Sheet.{Sheet}
use Rattle.prta_sheet.specs.Accepted.{IsAccepted}
use Rattle.prta_sheet.specs.Canonical.{canonical_text}
use Rattle.prta_sheet.specs.Stated.{sheet_stated}
use Rattle.prta_sheet.specs.Refusal.{refusal}

abbrev pub CanonicalIsRead : Type 0
CanonicalIsRead = (sheet : Sheet) → IsAccepted sheet → (refusal (canonical_text sheet) ≡ None) × (sheet_stated (canonical_text sheet) ≡ Some sheet)
