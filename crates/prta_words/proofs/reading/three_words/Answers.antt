use Rattle.std.proofs.Common.{◌∙◌, Bor, List, ℕ, inl, inr, codes, sym, ap₂, ◌∷◌, []}
use Rattle.clap.specs.Matches.{first_value, found_of}
use Rattle.clap.specs.Simple.{app_of}
use Rattle.prta_words.specs.Commands.{triple}
use Rattle.prta_words.specs.Words.{texts}
use Rattle.prta_words.proofs.Triple.{is_free, judge, simple}
use Rattle.prta_words.proofs.Parses.{never-passes, none-text, only-memory, some-text, value-by}
use Rattle.prta_words.proofs.Texts.{texts-utf8}
use Rattle.prta_words.proofs.reading.three_words.Goals as goal

pub returns-in-Err-clause-bad : goal.returns-in-Err-clause-bad
returns-in-Err-clause-bad c usage = elim (judge (texts c.args.words.now) (texts-utf8 c.args.words.now)) [
  | inl bad ↦ bad.not_good
  | inr good ↦ absurd (c.fault_from.ensures usage
      (only-memory (app_of c.in_ok-triple_command.field-0) triple (texts c.args.words.now) c.in-Err.error c.in_ok-triple_command.ensures is_free good.no_fault c.in-Err.ensures.kinds))
]

pub unreachable-requires : goal.unreachable-requires
unreachable-requires c = elim (judge (texts c.args.words.now) (texts-utf8 c.args.words.now)) [
  | inl bad ↦ never-passes (app_of c.in_ok-triple_command.field-0) triple (texts c.args.words.now) c.in_ok-triple_command.ensures is_free bad.fault c.in-Ok.ensures.kinds
  | inr good ↦ none-text (λ (s : Bor (List ℕ)). s.now) c.get_str.result (first_value (found_of c.in-Ok.matches) (codes "first")) good.first c.get_str.ensures
      (value-by (app_of c.in_ok-triple_command.field-0) triple (texts c.args.words.now) c.in-Ok.matches (codes "first") c.in_ok-triple_command.ensures simple c.in-Ok.ensures.matches ∙ good.first_is) c.in_default.is
]

pub unreachable-requires-in_default-get_str : goal.unreachable-requires-in_default-get_str
unreachable-requires-in_default-get_str c = elim (judge (texts c.args.words.now) (texts-utf8 c.args.words.now)) [
  | inl bad ↦ never-passes (app_of c.in_ok-triple_command.field-0) triple (texts c.args.words.now) c.in_ok-triple_command.ensures is_free bad.fault c.in-Ok.ensures.kinds
  | inr good ↦ none-text (λ (s : Bor (List ℕ)). s.now) c.get_str-2.result (first_value (found_of c.in-Ok.matches) (codes "second")) good.second c.get_str-2.ensures
      (value-by (app_of c.in_ok-triple_command.field-0) triple (texts c.args.words.now) c.in-Ok.matches (codes "second") c.in_ok-triple_command.ensures simple c.in-Ok.ensures.matches ∙ good.second_is) c.in_default-get_str.is
]

pub unreachable-requires-in_default-get_str-2 : goal.unreachable-requires-in_default-get_str-2
unreachable-requires-in_default-get_str-2 c = elim (judge (texts c.args.words.now) (texts-utf8 c.args.words.now)) [
  | inl bad ↦ never-passes (app_of c.in_ok-triple_command.field-0) triple (texts c.args.words.now) c.in_ok-triple_command.ensures is_free bad.fault c.in-Ok.ensures.kinds
  | inr good ↦ none-text (λ (s : Bor (List ℕ)). s.now) c.get_str-3.result (first_value (found_of c.in-Ok.matches) (codes "third")) good.third c.get_str-3.ensures
      (value-by (app_of c.in_ok-triple_command.field-0) triple (texts c.args.words.now) c.in-Ok.matches (codes "third") c.in_ok-triple_command.ensures simple c.in-Ok.ensures.matches ∙ good.third_is) c.in_default-get_str-2.is
]

pub returns-clause-good : goal.returns-clause-good
returns-clause-good c = elim (judge (texts c.args.words.now) (texts-utf8 c.args.words.now)) [
  | inl bad ↦ absurd (never-passes (app_of c.in_ok-triple_command.field-0) triple (texts c.args.words.now) c.in_ok-triple_command.ensures is_free bad.fault c.in-Ok.ensures.kinds)
  | inr good ↦ (
    good.good,
    good.named ∙ ap₂ (λ (first : List ℕ) (rest : List (List ℕ)). first ∷ rest)
        (sym (some-text (λ (s : Bor (List ℕ)). s.now) c.get_str.result c.in-Some.first (first_value (found_of c.in-Ok.matches) (codes "first")) good.first c.get_str.ensures
        (value-by (app_of c.in_ok-triple_command.field-0) triple (texts c.args.words.now) c.in-Ok.matches (codes "first") c.in_ok-triple_command.ensures simple c.in-Ok.ensures.matches ∙ good.first_is) c.in-Some.is))
        (ap₂ (λ (second third : List ℕ). second ∷ third ∷ [])
        (sym (some-text (λ (s : Bor (List ℕ)). s.now) c.get_str-2.result c.in-Some-get_str.second (first_value (found_of c.in-Ok.matches) (codes "second")) good.second c.get_str-2.ensures
        (value-by (app_of c.in_ok-triple_command.field-0) triple (texts c.args.words.now) c.in-Ok.matches (codes "second") c.in_ok-triple_command.ensures simple c.in-Ok.ensures.matches ∙ good.second_is) c.in-Some-get_str.is))
        (sym (some-text (λ (s : Bor (List ℕ)). s.now) c.get_str-3.result c.in-Some-get_str-2.third (first_value (found_of c.in-Ok.matches) (codes "third")) good.third c.get_str-3.ensures
        (value-by (app_of c.in_ok-triple_command.field-0) triple (texts c.args.words.now) c.in-Ok.matches (codes "third") c.in_ok-triple_command.ensures simple c.in-Ok.ensures.matches ∙ good.third_is) c.in-Some-get_str-2.is))),
  )
]
