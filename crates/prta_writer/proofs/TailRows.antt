-- The rows of a level by the verdict on it.
use Rattle.std.proofs.Common.{◌≡◌, ℕ, ◌++◌, ◌⊎◌, IfSome, Option, Some, None, List, codes, ap, sym, ◌∙◌, inl, inr}
use Rattle.prta_sheet.specs.Sheet.{Sheet}
use Rattle.prta_backlog.specs.Level.{sheet_level}
use Rattle.prta_certfile.specs.Text.{overfull_text, beyond_text}
use Rattle.prta_certificate.specs.Candidates.{verdict_of, list_of}
use Rattle.prta_certificate.specs.declared.verdict.Verdict.{Verdict}
use Rattle.prta_certificate.specs.declared.verdict.Verdict.TheVariants.{Turn, Slack, OverFull, BeyondCap}
use Rattle.prta_tail.specs.declared.ratio.Ratio.{Ratio}
use Rattle.prta_tail.specs.Walk.{first_ratio}
use Rattle.prta_report.specs.Certificates.{name_of, certified_rows}
use Rattle.prta_report.specs.Tails.{tail_at, overfull_rows, verdict_rows, tail_rows}

module _ (sheet : Sheet) (i : ℕ) (verdict : Verdict) (is : verdict ≡ verdict_of sheet.tasks (sheet_level i) sheet.settings.cap sheet.settings.turns) where
  rows_are : verdict_rows sheet i verdict ≡ tail_rows sheet i
  rows_are = ap (verdict_rows sheet i) is

  -- where it names a list, those of that list
  pub rows_of_list : (cells : List ℕ) → ((j : ℕ) × (verdict ≡ Turn j)) ⊎ ((s : ℕ) × (verdict ≡ Slack s)) →
      IfSome (list_of sheet.tasks (sheet_level i) sheet.settings.cap sheet.settings.turns verdict) (λ list. cells ≡ list) → certified_rows sheet i cells ≡ tail_rows sheet i
  rows_of_list cells named e = of_list verdict named e ∙ rows_are
    where
      of_list : (v : Verdict) → ((j : ℕ) × (v ≡ Turn j)) ⊎ ((s : ℕ) × (v ≡ Slack s)) →
          IfSome (list_of sheet.tasks (sheet_level i) sheet.settings.cap sheet.settings.turns v) (λ list. cells ≡ list) → certified_rows sheet i cells ≡ verdict_rows sheet i v
      of_list (Turn j) named e = ap (certified_rows sheet i) e
      of_list (Slack s) named e = ap (certified_rows sheet i) e
      of_list (OverFull work total) named e = elim named [ inl h ↦ let other = h.1 in cc | inr h ↦ let other = h.1 in cc ]
      of_list (BeyondCap most) named e = elim named [ inl h ↦ let other = h.1 in cc | inr h ↦ let other = h.1 in cc ]

  -- where the greatest work is above the hyperperiod, those of its tail, or why there is no certificate
  module _ (work total : ℕ) (over : verdict ≡ OverFull work total) where
    overfull_are : (found : Option Ratio) → found ≡ first_ratio sheet.tasks (sheet_level i) → overfull_rows sheet i work total found ≡ tail_rows sheet i
    overfull_are found e = ap (overfull_rows sheet i work total) e ∙ sym (ap (verdict_rows sheet i) over) ∙ rows_are

    pub rows_of_ratio : (found : Option Ratio) → found ≡ first_ratio sheet.tasks (sheet_level i) → (ratio : Ratio) → found ≡ Some ratio → tail_at sheet i ratio ≡ tail_rows sheet i
    rows_of_ratio found e ratio there = sym (ap (overfull_rows sheet i work total) there) ∙ overfull_are found e

    pub rows_of_none : (found : Option Ratio) → found ≡ first_ratio sheet.tasks (sheet_level i) → found ≡ None → overfull_text (name_of sheet i) work total ++ codes "\n" ≡ tail_rows sheet i
    rows_of_none found e none = sym (ap (overfull_rows sheet i work total) none) ∙ overfull_are found e

  -- where the peak isn't below the cap, that
  pub rows_of_cap : (most : ℕ) → verdict ≡ BeyondCap most → beyond_text (name_of sheet i) most ++ codes "\n" ≡ tail_rows sheet i
  rows_of_cap most beyond = sym (ap (verdict_rows sheet i) beyond) ∙ rows_are
