-- The levels of a certificate, task by task.
use Rattle.std.proofs.Common.{◌≡◌, ℕ, suc, ◌+◌, ◌-◌, ◌<◌, ◌≤◌, ◌++◌, Bool, true, false, is_some, Option, Some, None, find, List, length, get_or, codes, refl, ap, sym, ◌∙◌, arith}
use Rattle.std.specs.List.{range_with_len}
use Rattle.std.specs.Option.{option_map_or}
use Rattle.std.proofs.lemmas.List.{get_or_read}
use Rattle.prta_sheet.specs.Sheet.{Sheet}
use Rattle.prta_dist.specs.declared.effect.Break.{Break}
use Rattle.prta_certfile.specs.declared.level.CertLevel.{CertLevel}
use Rattle.prta_report.specs.Text.{broken_line}
use Rattle.prta_report.specs.Certificates.{name_of, stated_at, broken_in, broken_text, broken_task, steady_text, verify_text}

-- the level that was read is the one that is stated of the task
pub stated_read : (levels : List CertLevel) (i : ℕ) (level : CertLevel) → i < length levels → level ≡ get_or levels i level → level ≡ stated_at levels i
stated_read levels i level low is = get_or_read levels i level low is _

-- ---- the first broken list

abbrev pub is_broken : Sheet → List CertLevel → ℕ → Bool
is_broken sheet levels i = is_some (broken_in sheet i (stated_at levels i))

-- that of the tasks from number i on
abbrev pub broken_from : Sheet → List CertLevel → ℕ → Option ℕ
broken_from sheet levels i = find (is_broken sheet levels) (range_with_len i (length sheet.tasks - i))

module _ (sheet : Sheet) (levels : List CertLevel) (i : ℕ) where
  module _ (low : i < length sheet.tasks) (result : Option Break) (is : result ≡ broken_in sheet i (stated_at levels i)) where
    rest_from : broken_from sheet levels i ≡ find (is_broken sheet levels) (range_with_len i (suc (length sheet.tasks - (i + 1))))
    rest_from =
        let left : length sheet.tasks - i ≡ suc (length sheet.tasks - (i + 1)) = omega arith in
        ap (λ n. find (is_broken sheet levels) (range_with_len i n)) left

    pub whole_here : result ≡ None → broken_from sheet levels i ≡ broken_from sheet levels (i + 1)
    whole_here none =
        let whole : is_broken sheet levels i ≡ false = ap is_some (sym is ∙ none) in
        rest_from ∙ rw whole refl

    pub broken_here : (at : Break) → result ≡ Some at → broken_from sheet levels i ≡ Some i
    broken_here at found =
        let broken : is_broken sheet levels i ≡ true = ap is_some (sym is ∙ found) in
        rest_from ∙ rw broken refl

  -- none are left
  pub none_left : length sheet.tasks ≤ i → broken_from sheet levels i ≡ None
  none_left past =
      let left : length sheet.tasks - i ≡ 0 = omega arith in
      ap (λ n. find (is_broken sheet levels) (range_with_len i n)) left

-- the text where a list is broken, and where none is
pub text_of_broken : (sheet : Sheet) (levels : List CertLevel) (i : ℕ) (at : Break) → Some i ≡ broken_task sheet levels → broken_in sheet i (stated_at levels i) ≡ Some at →
    codes "prta verify 1\n" ++ broken_line (name_of sheet i) at ≡ verify_text sheet levels
text_of_broken sheet levels i at first there =
    ap (λ line. codes "prta verify 1\n" ++ line)
    (sym (ap (broken_text sheet i) there)
    ∙ ap (λ found. option_map_or (λ j. broken_text sheet j (broken_in sheet j (stated_at levels j))) found (steady_text sheet levels)) first)

pub text_of_whole : (sheet : Sheet) (levels : List CertLevel) → None ≡ broken_task sheet levels → codes "prta verify 1\n" ++ steady_text sheet levels ≡ verify_text sheet levels
text_of_whole sheet levels none =
    ap (λ found. codes "prta verify 1\n" ++ option_map_or (λ j. broken_text sheet j (broken_in sheet j (stated_at levels j))) found (steady_text sheet levels)) none
