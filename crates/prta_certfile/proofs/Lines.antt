-- The lines of a certificate, read.
use Rattle.std.proofs.Common.{◌≡◌, ℕ, ◌-◌, ◌^◌, ◌<◌, ◌≤◌, true, false, not, nat_eq, Option, Some, None, List, [], ◌∷◌, ◌++◌, get_or, map, flat_map, codes, decimal, option_map, option_and_then, All, refl, ap, sym, ◌∙◌, arith, inl, inr, append_assoc, append-nil, ne_eqb}
use Rattle.std.specs.List.{list_all}
use Rattle.std.proofs.lemmas.Bool.{and_parts, both_ways, cond-true}
use Rattle.std.proofs.lemmas.List.Elements.{All-nil, All-cons, All-head, All-tail}
use Rattle.std.proofs.lemmas.List.Sums.{AllPass-from_list_all}
use Rattle.std.proofs.lemmas.List.Splits.{slice_split_none, slice_split_at}
use Rattle.prta_number.specs.Decimal.{number_within}
use Rattle.prta_mass.specs.Unit.{unit}
use Rattle.prta_sheet.specs.Accepted.{is_good_name, is_name_byte}
use Rattle.prta_certfile.specs.declared.level.CertLevel.{CertLevel}
use Rattle.prta_certfile.specs.declared.level.CertLevel.TheVariants.{Steps, OverFull, BeyondCap}
use Rattle.prta_certfile.specs.Steps.{AreBelow}
use Rattle.prta_certfile.specs.Text.{level_head, pair_text, overfull_text, beyond_text, level_text}
use Rattle.prta_certfile.specs.Reading.{cut, words, step_in, step_said, steps_said, overfull_in, reason_in, level_said, named_in, line_said}
use Rattle.prta_certfile.specs.Laws.{IsLevel}
use Rattle.prta_certfile.proofs.Cuts.{Lacks, lacks_literal, lacks_append, cut_at}
use Rattle.prta_number.proofs.Numbers.{printed_numbers_are_read}
use Rattle.prta_certfile.proofs.Numbers.{decimal_lacks}

pub bind_some : {A B : Type 0} (f : A → Option B) (o : Option A) (x : A) (y : Option B) → o ≡ Some x → f x ≡ y → option_and_then f o ≡ y
bind_some f o x y e h = ap (option_and_then f) e ∙ h

pub assoc_of_4 : (a b c d : List ℕ) → a ++ b ++ c ++ d ≡ a ++ (b ++ (c ++ d))
assoc_of_4 a b c d = append_assoc (a ++ b) c d ∙ append_assoc a b (c ++ d)

pub assoc_of_6 : (a b c d e f : List ℕ) → a ++ b ++ c ++ d ++ e ++ f ≡ a ++ (b ++ (c ++ (d ++ (e ++ f))))
assoc_of_6 a b c d e f = append_assoc (a ++ b ++ c ++ d) e f ∙ append_assoc (a ++ b ++ c) d (e ++ f) ∙ assoc_of_4 a b c (d ++ (e ++ f))

-- a byte that stands in no good name
pub good_name_lacks : (byte : ℕ) (name : List ℕ) → is_good_name name ≡ true → is_name_byte byte ≡ false → Lacks byte name
good_name_lacks byte name good other k d low =
    let (size, all) = and_parts _ (list_all is_name_byte name) good in
    let this : is_name_byte (get_or name k d) ≡ true = AllPass-from_list_all is_name_byte name all k d low in
    ne_eqb (get_or name k d) byte (λ e. both_ways (is_name_byte byte) other (ap is_name_byte (sym e) ∙ this))

-- ---- texts without a line feed

-- the fact as a record, whose text antt finds
record IsOneLine (text : List ℕ) : Type 0 where
  lacks : Lacks 10 text

infixl 10 ◌>>◌
◌>>◌ : {t u : List ℕ} → IsOneLine t → IsOneLine u → IsOneLine (t ++ u)
◌>>◌ {t} {u} a b = record { lacks = lacks_append 10 t u a.lacks b.lacks }

none_in : (text : List ℕ) → list_all (λ b. not (nat_eq b 10)) text ≡ true → IsOneLine text
none_in text all = record { lacks = lacks_literal 10 text all }

in_name : (name : List ℕ) → is_good_name name ≡ true → IsOneLine name
in_name name good = record { lacks = good_name_lacks 10 name good refl }

in_number : (n : ℕ) → n < 2 ^ 64 → IsOneLine (decimal n)
in_number n small = record { lacks = decimal_lacks 10 n small (inl (omega arith)) }

-- ---- a step

-- numbers that the form allows
abbrev pub IsStep : ℕ × ℕ → Type 0
IsStep step = (step.0 < 2 ^ 32) × (step.1 ≤ unit)

abbrev pub pair_word : ℕ × ℕ → List ℕ
pair_word step = decimal step.0 ++ 58 ∷ decimal step.1

pub pair_text_is : (step : ℕ × ℕ) → pair_text step ≡ 32 ∷ pair_word step
unfolding pair_text
pair_text_is step = ap (λ (bs : List ℕ). 32 ∷ bs) (append_assoc (decimal step.0) (codes ":") (decimal step.1))

pair_word_lacks : (byte : ℕ) (step : ℕ × ℕ) → IsStep step → byte < 48 → Lacks byte (pair_word step)
pair_word_lacks byte step is low =
    let place : step.0 < 2 ^ 32 = is.0 in
    let value : step.1 ≤ unit = is.1 in
    lacks_append byte (decimal step.0) (58 ∷ decimal step.1) (decimal_lacks byte step.0 (omega arith) (inl low))
    (All-cons (λ b. nat_eq b byte ≡ false) 58 (decimal step.1) (ne_eqb 58 byte (λ e. omega arith)) (decimal_lacks byte step.1 (omega arith) (inl low)))

step_read : (step : ℕ × ℕ) → IsStep step → step_said (pair_word step) ≡ Some step
step_read step is =
    let place : step.0 < 2 ^ 32 = is.0 in
    let value : step.1 ≤ unit = is.1 in
    bind_some step_in (cut 58 (pair_word step)) (decimal step.0, decimal step.1) (Some step)
    (cut_at 58 (decimal step.0) (decimal step.1) (decimal_lacks 58 step.0 (omega arith) (inr (omega arith))))
    (bind_some (λ place. option_and_then (λ value. Some (place, value)) (number_within 0 unit (decimal step.1))) (number_within 0 (2 ^ 32 - 1) (decimal step.0)) step.0 (Some step)
    (printed_numbers_are_read 0 (2 ^ 32 - 1) step.0 (omega arith) (omega arith) (omega arith))
    (bind_some (λ value. Some (step.0, value)) (number_within 0 unit (decimal step.1)) step.1 (Some step) (printed_numbers_are_read 0 unit step.1 (omega arith) value (omega arith)) refl))

-- ---- the steps of a line

-- what stands after the space before the first step
abbrev pub steps_text : ℕ × ℕ → List (ℕ × ℕ) → List ℕ
steps_text step steps = pair_word step ++ flat_map pair_text steps

pub steps_text_is : (step : ℕ × ℕ) (steps : List (ℕ × ℕ)) → flat_map pair_text (step ∷ steps) ≡ 32 ∷ steps_text step steps
steps_text_is step steps = ap (λ (bs : List ℕ). bs ++ flat_map pair_text steps) (pair_text_is step)

words_of_steps : (step : ℕ × ℕ) (steps : List (ℕ × ℕ)) → All IsStep (step ∷ steps) → words (steps_text step steps) ≡ map pair_word (step ∷ steps)
words_of_steps step [] is =
    ap words (append-nil (pair_word step)) ∙ slice_split_none (λ b. nat_eq b 32) (pair_word step) (pair_word_lacks 32 step (All-head IsStep step [] is) (omega arith))
words_of_steps step (next ∷ steps) is =
    let lacks : Lacks 32 (pair_word step) = pair_word_lacks 32 step (All-head IsStep step (next ∷ steps) is) (omega arith) in
    ap (λ (bs : List ℕ). words (pair_word step ++ bs)) (steps_text_is next steps)
    ∙ slice_split_at (λ b. nat_eq b 32) (pair_word step) 32 (steps_text next steps) lacks refl
    ∙ ap (λ (ws : List (List ℕ)). pair_word step ∷ ws) (words_of_steps next steps (All-tail IsStep step (next ∷ steps) is))

steps_read : (steps : List (ℕ × ℕ)) → All IsStep steps → steps_said (map pair_word steps) ≡ Some steps
steps_read [] is = refl
steps_read (step ∷ steps) is =
    bind_some (λ first. option_and_then (λ rest. Some (first ∷ rest)) (steps_said (map pair_word steps))) (step_said (pair_word step)) step (Some (step ∷ steps)) (step_read step (All-head IsStep step steps is))
    (bind_some (λ rest. Some (step ∷ rest)) (steps_said (map pair_word steps)) steps (Some (step ∷ steps)) (steps_read steps (All-tail IsStep step steps is)) refl)

steps_lack : (steps : List (ℕ × ℕ)) → All IsStep steps → Lacks 10 (flat_map pair_text steps)
steps_lack [] is = All-nil (λ b. nat_eq b 10 ≡ false)
steps_lack (step ∷ steps) is =
    let word : Lacks 10 (32 ∷ pair_word step) = All-cons (λ b. nat_eq b 10 ≡ false) 32 (pair_word step) refl (pair_word_lacks 10 step (All-head IsStep step steps is) (omega arith)) in
    lacks_append 10 (pair_text step) (flat_map pair_text steps) (rw (pair_text_is step) word) (steps_lack steps (All-tail IsStep step steps is))

-- ---- a line

-- what a line of a kind, a name and a rest says
said_is : (kind name rest : List ℕ) (level : CertLevel) → Lacks 32 kind → is_good_name name ≡ true → level_said kind rest ≡ Some level → line_said (kind ++ 32 ∷ (name ++ 32 ∷ rest)) ≡ Some (name, level)
said_is kind name rest level one good said =
    bind_some (λ (parts : List ℕ × List ℕ). option_and_then (named_in parts.0) (cut 32 parts.1)) (cut 32 (kind ++ 32 ∷ (name ++ 32 ∷ rest))) (kind, name ++ 32 ∷ rest) (Some (name, level))
    (cut_at 32 kind (name ++ 32 ∷ rest) one)
    (bind_some (named_in kind) (cut 32 (name ++ 32 ∷ rest)) (name, rest) (Some (name, level)) (cut_at 32 name rest (good_name_lacks 32 name good refl))
    (cond-true (is_good_name name) _ None good ∙ ap (option_map (λ (level : CertLevel). (name, level))) said))

-- the text of a level is read as this level, and lacks a line feed
pub record IsLine (name : List ℕ) (level : CertLevel) : Type 0 where
  pub said : line_said (level_text name level) ≡ Some (name, level)
  pub lacks : Lacks 10 (level_text name level)

steps_line : (name : List ℕ) (step : ℕ × ℕ) (steps : List (ℕ × ℕ)) → is_good_name name ≡ true → All IsStep (step ∷ steps) → IsLine name (Steps (step ∷ steps))
unfolding level_head
steps_line name step steps good is =
    let all : List (ℕ × ℕ) = step ∷ steps in
    let level : level_said (codes "level") (steps_text step steps) ≡ Some (Steps all) = ap (option_map Steps) (ap steps_said (words_of_steps step steps is) ∙ steps_read (step ∷ steps) is) in
    record {
      said =
          ap (λ (bs : List ℕ). line_said (codes "level " ++ (name ++ bs))) (steps_text_is step steps)
          ∙ said_is (codes "level") name (steps_text step steps) (Steps all) (lacks_literal 32 (codes "level") refl) good level;
      lacks = lacks_append 10 (level_head name) (flat_map pair_text all) (lacks_append 10 (codes "level ") name (lacks_literal 10 (codes "level ") refl) (good_name_lacks 10 name good refl)) (steps_lack all is);
    }

overfull_line : (name : List ℕ) (work hyperperiod : ℕ) → is_good_name name ≡ true → work < 2 ^ 64 → hyperperiod < 2 ^ 64 → IsLine name (OverFull work hyperperiod)
unfolding overfull_text
overfull_line name work hyperperiod good w h =
    let numbers : overfull_in (decimal work, decimal hyperperiod) ≡ Some (OverFull work hyperperiod) =
    bind_some (λ work. option_and_then (λ hyperperiod. Some (OverFull work hyperperiod)) (number_within 0 (2 ^ 64 - 1) (decimal hyperperiod))) (number_within 0 (2 ^ 64 - 1) (decimal work)) work (Some (OverFull work hyperperiod)) (printed_numbers_are_read 0 (2 ^ 64 - 1) work (omega arith) (omega arith) (omega arith))
    (bind_some (λ hyperperiod. Some (OverFull work hyperperiod)) (number_within 0 (2 ^ 64 - 1) (decimal hyperperiod)) hyperperiod (Some (OverFull work hyperperiod)) (printed_numbers_are_read 0 (2 ^ 64 - 1) hyperperiod (omega arith) (omega arith) (omega arith)) refl) in
    let rest : List ℕ = decimal work ++ 32 ∷ decimal hyperperiod in
    let level : level_said (codes "none") (codes "overfull" ++ 32 ∷ rest) ≡ Some (OverFull work hyperperiod) =
    bind_some reason_in (cut 32 (codes "overfull" ++ 32 ∷ rest)) (codes "overfull", rest) (Some (OverFull work hyperperiod)) (cut_at 32 (codes "overfull") rest (lacks_literal 32 (codes "overfull") refl))
    (bind_some overfull_in (cut 32 rest) (decimal work, decimal hyperperiod) (Some (OverFull work hyperperiod)) (cut_at 32 (decimal work) (decimal hyperperiod) (decimal_lacks 32 work w (inl (omega arith)))) numbers) in
    let shape = assoc_of_6 (codes "none ") name (codes " overfull ") (decimal work) (codes " ") (decimal hyperperiod) in
    record {
      said = ap line_said shape ∙ said_is (codes "none") name (codes "overfull" ++ 32 ∷ rest) (OverFull work hyperperiod) (lacks_literal 32 (codes "none") refl) good level;
      lacks = (none_in (codes "none ") refl >> in_name name good >> none_in (codes " overfull ") refl >> in_number work w >> none_in (codes " ") refl >> in_number hyperperiod h).lacks;
    }

beyond_line : (name : List ℕ) (peak : ℕ) → is_good_name name ≡ true → peak < 2 ^ 64 → IsLine name (BeyondCap peak)
unfolding beyond_text
beyond_line name peak good p =
    let level : level_said (codes "none") (codes "beyondcap" ++ 32 ∷ decimal peak) ≡ Some (BeyondCap peak) =
    bind_some reason_in (cut 32 (codes "beyondcap" ++ 32 ∷ decimal peak)) (codes "beyondcap", decimal peak) (Some (BeyondCap peak)) (cut_at 32 (codes "beyondcap") (decimal peak) (lacks_literal 32 (codes "beyondcap") refl))
    (ap (option_map BeyondCap) (printed_numbers_are_read 0 (2 ^ 64 - 1) peak (omega arith) (omega arith) (omega arith))) in
    let shape = assoc_of_4 (codes "none ") name (codes " beyondcap ") (decimal peak) in
    record {
      said = ap line_said shape ∙ said_is (codes "none") name (codes "beyondcap" ++ 32 ∷ decimal peak) (BeyondCap peak) (lacks_literal 32 (codes "none") refl) good level;
      lacks = (none_in (codes "none ") refl >> in_name name good >> none_in (codes " beyondcap ") refl >> in_number peak p).lacks;
    }

pub line : (cap : ℕ) (name : List ℕ) (level : CertLevel) → cap ≤ 2 ^ 32 → is_good_name name ≡ true → IsLevel cap level → IsLine name level
line cap name (Steps []) small good is = let whole = is.2 in absurd (omega arith)
line cap name (Steps (step ∷ steps)) small good is =
    let below : AreBelow cap (step ∷ steps) = is.1 in
    let limited : All (λ step. step.1 ≤ unit) (step ∷ steps) = is.0.limited in
    steps_line name step steps good (λ k d low. (let place = below k d low in omega arith, limited k d low))
line cap name (OverFull work hyperperiod) small good is = overfull_line name work hyperperiod good is.0 is.1
line cap name (BeyondCap peak) small good is = beyond_line name peak good is
