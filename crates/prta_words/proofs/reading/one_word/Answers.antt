use Rattle.std.proofs.Common.{◌∙◌, Bor, List, ℕ, inl, inr, codes, sym, ap, ◌∷◌, []}
use Rattle.clap.specs.Matches.{first_value, found_of}
use Rattle.clap.specs.Simple.{app_of}
use Rattle.prta_words.specs.Commands.{single}
use Rattle.prta_words.specs.Words.{texts}
use Rattle.prta_words.proofs.Single.{is_free, judge, simple}
use Rattle.prta_words.proofs.Parses.{never-passes, none-text, only-memory, some-text, value-by}
use Rattle.prta_words.proofs.Texts.{texts-utf8}
use Rattle.prta_words.proofs.reading.one_word.Goals as goal

pub returns-in-Err-clause-bad : goal.returns-in-Err-clause-bad
returns-in-Err-clause-bad c usage = elim (judge (texts c.args.words.now) (texts-utf8 c.args.words.now)) [
  | inl bad ↦ bad.not_good
  | inr good ↦ absurd (c.fault_from.ensures usage
      (only-memory (app_of c.in_ok-single_command.field-0) single (texts c.args.words.now) c.in-Err.error c.in_ok-single_command.ensures is_free good.no_fault c.in-Err.ensures.kinds))
]

pub unreachable-requires : goal.unreachable-requires
unreachable-requires c = elim (judge (texts c.args.words.now) (texts-utf8 c.args.words.now)) [
  | inl bad ↦ never-passes (app_of c.in_ok-single_command.field-0) single (texts c.args.words.now) c.in_ok-single_command.ensures is_free bad.fault c.in-Ok.ensures.kinds
  | inr good ↦ none-text (λ (s : Bor (List ℕ)). s.now) c.get_str.result (first_value (found_of c.in-Ok.matches) (codes "name")) good.name c.get_str.ensures
      (value-by (app_of c.in_ok-single_command.field-0) single (texts c.args.words.now) c.in-Ok.matches (codes "name") c.in_ok-single_command.ensures simple c.in-Ok.ensures.matches ∙ good.name_is) c.in-None.is
]

pub returns-clause-good : goal.returns-clause-good
returns-clause-good c = elim (judge (texts c.args.words.now) (texts-utf8 c.args.words.now)) [
  | inl bad ↦ absurd (never-passes (app_of c.in_ok-single_command.field-0) single (texts c.args.words.now) c.in_ok-single_command.ensures is_free bad.fault c.in-Ok.ensures.kinds)
  | inr good ↦ (
    good.good,
    good.named ∙ ap (λ name. name ∷ []) (sym (some-text (λ (s : Bor (List ℕ)). s.now) c.get_str.result c.in-Some.name (first_value (found_of c.in-Ok.matches) (codes "name")) good.name c.get_str.ensures
        (value-by (app_of c.in_ok-single_command.field-0) single (texts c.args.words.now) c.in-Ok.matches (codes "name") c.in_ok-single_command.ensures simple c.in-Ok.ensures.matches ∙ good.name_is) c.in-Some.is)),
  )
]
