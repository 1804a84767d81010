use Rattle.std.proofs.Common.{◌∙◌, ◌==◌, Bor, List, ℕ, true, inl, inr, codes, sym, ap, ◌∷◌, []}
use Rattle.clap.specs.Matches.{first_value, found_of, one_text}
use Rattle.clap.specs.Simple.{app_of, matches_of}
use Rattle.clap.specs.Walk.{one_of}
use Rattle.prta_words.specs.Commands.{analyse}
use Rattle.prta_words.specs.Words.{flag_count, texts}
use Rattle.prta_words.proofs.Analyse.{is_free, judge, simple}
use Rattle.prta_words.proofs.Parses.{flag-by, never-passes, none-text, only-memory, some-text, text-by, value-by}
use Rattle.prta_words.proofs.Texts.{texts-utf8}
use Rattle.prta_words.proofs.reading.sheet_words.Goals as goal

pub returns-in-Err-clause-bad : goal.returns-in-Err-clause-bad
returns-in-Err-clause-bad c usage = elim (judge (texts c.args.words.now) (texts-utf8 c.args.words.now)) [
  | inl bad ↦ bad.not_good
  | inr good ↦ absurd (c.fault_from.ensures usage
      (only-memory (app_of c.in_ok-sheet_command.field-0) analyse (texts c.args.words.now) c.in-Err.error c.in_ok-sheet_command.ensures is_free good.no_fault c.in-Err.ensures.kinds))
]

pub unreachable-requires : goal.unreachable-requires
unreachable-requires c = elim (judge (texts c.args.words.now) (texts-utf8 c.args.words.now)) [
  | inl bad ↦ never-passes (app_of c.in_ok-sheet_command.field-0) analyse (texts c.args.words.now) c.in_ok-sheet_command.ensures is_free bad.fault c.in-Ok.ensures.kinds
  | inr good ↦ none-text (λ (s : Bor (List ℕ)). s.now) c.get_str.result (first_value (found_of c.in-Ok.matches) (codes "sheet")) good.name c.get_str.ensures
      (value-by (app_of c.in_ok-sheet_command.field-0) analyse (texts c.args.words.now) c.in-Ok.matches (codes "sheet") c.in_ok-sheet_command.ensures simple c.in-Ok.ensures.matches ∙ good.first) c.in-None.is
]

pub returns-clause-good : goal.returns-clause-good
returns-clause-good c = elim (judge (texts c.args.words.now) (texts-utf8 c.args.words.now)) [
  | inl bad ↦ absurd (never-passes (app_of c.in_ok-sheet_command.field-0) analyse (texts c.args.words.now) c.in_ok-sheet_command.ensures is_free bad.fault c.in-Ok.ensures.kinds)
  | inr good ↦ (
    good.good,
    good.named ∙ ap (λ name. name ∷ []) (sym (some-text (λ (s : Bor (List ℕ)). s.now) c.get_str.result c.in-Some.sheet (first_value (found_of c.in-Ok.matches) (codes "sheet")) good.name c.get_str.ensures
        (value-by (app_of c.in_ok-sheet_command.field-0) analyse (texts c.args.words.now) c.in-Ok.matches (codes "sheet") c.in_ok-sheet_command.ensures simple c.in-Ok.ensures.matches ∙ good.first) c.in-Some.is)),
    flag-by c.get_flag.result (flag_count true (texts c.args.words.now) == 1) (one_text (found_of c.in-Ok.matches) (codes "csv")) (one_of (codes "csv") (matches_of analyse (texts c.args.words.now)))
        (text-by (app_of c.in_ok-sheet_command.field-0) analyse (texts c.args.words.now) c.in-Ok.matches (codes "csv") c.in_ok-sheet_command.ensures simple c.in-Ok.ensures.matches)
        c.get_flag.ensures.value c.get_flag.ensures.other good.flag,
  )
]
