-- The line of a level by the verdict on it.
use Rattle.std.proofs.Common.{◌≡◌, ℕ, ◌++◌, ◌⊎◌, IfSome, List, codes, ap, inl, inr}
use Rattle.prta_sheet.specs.Sheet.{Sheet}
use Rattle.prta_backlog.specs.Level.{sheet_level}
use Rattle.prta_certfile.specs.Text.{level_text}
use Rattle.prta_certificate.specs.Candidates.{verdict_of, list_of}
use Rattle.prta_certificate.specs.Levels.{level_for}
use Rattle.prta_certificate.specs.declared.verdict.Verdict.{Verdict}
use Rattle.prta_certificate.specs.declared.verdict.Verdict.TheVariants.{Turn, Slack, OverFull, BeyondCap}
use Rattle.prta_report.specs.Certificates.{name_of, list_rows, certify_rows}

module _ (sheet : Sheet) (i : ℕ) where
  -- the line for a verdict
  abbrev pub line_for : Verdict → List ℕ
  line_for verdict = level_text (name_of sheet i) (level_for sheet.tasks (sheet_level i) sheet.settings.cap sheet.settings.turns verdict) ++ codes "\n"

  -- it is the one of the level, where the verdict is
  pub line_is : (verdict : Verdict) → verdict ≡ verdict_of sheet.tasks (sheet_level i) sheet.settings.cap sheet.settings.turns → line_for verdict ≡ certify_rows sheet i
  line_is verdict e = ap line_for e

  -- where the verdict names a list, it is the line of that list
  pub line_of_list : (cells : List ℕ) (verdict : Verdict) → ((j : ℕ) × (verdict ≡ Turn j)) ⊎ ((s : ℕ) × (verdict ≡ Slack s)) →
      IfSome (list_of sheet.tasks (sheet_level i) sheet.settings.cap sheet.settings.turns verdict) (λ list. cells ≡ list) → list_rows sheet i cells ≡ line_for verdict
  line_of_list cells (Turn j) named e = ap (list_rows sheet i) e
  line_of_list cells (Slack s) named e = ap (list_rows sheet i) e
  line_of_list cells (OverFull work total) named e = elim named [ inl h ↦ let is = h.1 in cc | inr h ↦ let is = h.1 in cc ]
  line_of_list cells (BeyondCap most) named e = elim named [ inl h ↦ let is = h.1 in cc | inr h ↦ let is = h.1 in cc ]
