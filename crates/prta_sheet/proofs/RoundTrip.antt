-- The canonical text of an accepted sheet is accepted, and states that very sheet.
use Rattle.std.proofs.Common.{◌≡◌, false, nat_lt, Some, None, option_map, length, ap, sym, ◌∙◌, subst, arith}
use Rattle.std.proofs.lemmas.Bool.Decides.{nat_tests}
use Rattle.prta_mass.specs.Table.{FaultlessPairs}
use Rattle.prta_sheet.specs.declared.limits.TheConstants.{SHEET_LIMIT}
use Rattle.prta_sheet.specs.Sheet.{Sheet}
use Rattle.prta_sheet.specs.Accepted.{IsAccepted}
use Rattle.prta_sheet.specs.Canonical.{canonical_text, document_of}
use Rattle.prta_sheet.specs.Document.{document}
use Rattle.prta_sheet.specs.Stated.{stated}
use Rattle.prta_sheet.specs.SheetConditions.{part_ranges, later_fault}
use Rattle.prta_sheet.specs.Refusal.{document_refusal, refusal_of, refusal}
use Rattle.prta_sheet.specs.RoundTrip.{CanonicalIsRead}
use Rattle.prta_sheet.proofs.FirstOf.{both_none, next_none, when_false}
use Rattle.prta_sheet.proofs.Canonical.{read_back}
use Rattle.prta_sheet.proofs.CanonicalLength.{canonical_is_short}
use Rattle.prta_sheet.proofs.Statable.{accepted_are_statable}
use Rattle.prta_sheet.proofs.StatedSheet.{sheet_is_stated}
use Rattle.prta_sheet.proofs.StatedDocument.{document_passes}
use Rattle.prta_sheet.proofs.Faultless.{faultless}

module _ (makes : FaultlessPairs) (sheet : Sheet) (is : IsAccepted sheet) where
  states : document (canonical_text sheet) ≡ Some (document_of sheet)
  states = read_back sheet (accepted_are_statable sheet is)

  short_enough : nat_lt SHEET_LIMIT (length (canonical_text sheet)) ≡ false
  short_enough = let short = canonical_is_short sheet is in grind (arith, nat_tests)

  stands : stated (document_of sheet) ≡ sheet
  stands = sheet_is_stated sheet (λ k d low. (is.tasks k d low).cycle_low)

  document_accepted : document_refusal (document_of sheet) ≡ None
  document_accepted =
      let later = subst (λ (s : Sheet). later_fault s ≡ None) (sym stands) (next_none (part_ranges sheet) (later_fault sheet) (faultless makes sheet is)) in
      both_none _ _ (document_passes sheet is) later

  accepted : refusal (canonical_text sheet) ≡ None
  accepted = both_none _ _ (when_false _ _ short_enough) (subst (λ o. refusal_of o ≡ None) (sym states) document_accepted)

pub canonical_is_read : FaultlessPairs → CanonicalIsRead
canonical_is_read makes sheet is = (accepted makes sheet is, ap (option_map stated) (states makes sheet is) ∙ ap Some (stands makes sheet is))
