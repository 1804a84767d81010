-- Bytes that are read are the text of what is read.
use Rattle.std.proofs.Common.{◌≡◌, ℕ, suc, ◌+◌, ◌-◌, ◌^◌, ◌<◌, Bool, true, false, not, nat_eq, nat_lt, if◌then◌else◌, Option, Some, None, List, [], ◌∷◌, ◌++◌, length, map, flat_map, codes, decimal, bytes_eq, option_map, option_and_then, All, refl, ap, ap₂, sym, ◌∙◌, subst, arith, inl, inr, append_assoc, append-nil, eqb-true}
use Rattle.std.specs.Option.{unwrap_or}
use Rattle.std.specs.List.{join_with_byte}
use Rattle.std.proofs.lemmas.List.{nil_from_length}
use Rattle.std.proofs.lemmas.List.Elements.{All-nil, All-cons}
use Rattle.std.proofs.lemmas.List.Splits.{join_with_byte-slice_split, length-slice_split}
use Rattle.prta_number.specs.Decimal.{number_within}
use Rattle.prta_mass.specs.Unit.{unit}
use Rattle.prta_mass.specs.Table.{or_else, when}
use Rattle.prta_sheet.specs.Sheet.{Task}
use Rattle.prta_sheet.specs.Accepted.{is_good_name}
use Rattle.prta_certfile.specs.declared.level.CertLevel.{CertLevel}
use Rattle.prta_certfile.specs.declared.level.CertLevel.TheVariants.{Steps, OverFull, BeyondCap}
use Rattle.prta_certfile.specs.declared.fault.CertFault.{CertFault}
use Rattle.prta_certfile.specs.declared.fault.CertFault.TheVariants.{TooLong, BadLine, WrongTask}
use Rattle.prta_certfile.specs.declared.limits.TheConstants.{CERT_LIMIT}
use Rattle.prta_certfile.specs.Text.{title, level_head, pair_text, overfull_text, beyond_text, level_text, level_lines, cert_text}
use Rattle.prta_certfile.specs.Reading.{cut, words, step_in, step_said, steps_said, overfull_in, reason_in, level_said, named_in, line_said, level_fault, said_fault, line_fault, in_line, end_fault, lines_fault, title_fault, level_of, levels_in, levels_of}
use Rattle.prta_certfile.specs.Laws.{IsLevel, ReadTextsArePrinted}
use Rattle.prta_certfile.proofs.Cuts.{IsCut, cut_found, option_cases}
use Rattle.prta_certfile.proofs.Faults.{first_none, next_none, passes, same_bytes, steps_faultless}
use Rattle.prta_certfile.proofs.Numbers.{IsNumber, read_number}
use Rattle.prta_certfile.proofs.Lines.{pair_word, pair_text_is, assoc_of_4, assoc_of_6}

none_some : {X : Type 0} (x : X) → None ≡ Some x → ⊥
none_some x e = cc

some_same : {X : Type 0} (x y : X) → Some x ≡ Some y → x ≡ y
some_same x y e = cc

-- where a chain of two answers, the first does, and the second after it
record Chained {A B : Type 0} (f : A → Option B) (o : Option A) (y : B) : Type 0 where
  first : A
  is : o ≡ Some first
  next : f first ≡ Some y

chained : {A B : Type 0} (f : A → Option B) (o : Option A) (y : B) → option_and_then f o ≡ Some y → Chained f o y
chained f None y e = absurd (none_some y e)
chained f (Some x) y e = record { first = x; is = refl; next = e }

record Mapped {A B : Type 0} (f : A → B) (o : Option A) (y : B) : Type 0 where
  first : A
  is : o ≡ Some first
  made : f first ≡ y

mapped : {A B : Type 0} (f : A → B) (o : Option A) (y : B) → option_map f o ≡ Some y → Mapped f o y
mapped f None y e = absurd (none_some y e)
mapped f (Some x) y e = record { first = x; is = refl; made = some_same (f x) y e }

-- what an answer under a test tells
record Held {A : Type 0} (t : Bool) (o : Option A) (y : A) : Type 0 where
  test : t ≡ true
  is : o ≡ Some y

held : {A : Type 0} (t : Bool) (o : Option A) (y : A) → (if t then o else None) ≡ Some y → Held t o y
held true o y e = record { test = refl; is = e }
held false o y e = absurd (none_some y e)

-- ---- a step

step_printed : (word : List ℕ) (step : ℕ × ℕ) → step_said word ≡ Some step → pair_word step ≡ word
step_printed word step e =
    let parts = chained step_in (cut 58 word) step e in
    let at : IsCut 58 word parts.first.0 parts.first.1 = cut_found 58 word parts.first.0 parts.first.1 parts.is in
    let place = chained (λ place. option_and_then (λ value. Some (place, value)) (number_within 0 unit parts.first.1)) (number_within 0 (2 ^ 32 - 1) parts.first.0) step parts.next in
    let value = chained (λ value. Some (place.first, value)) (number_within 0 unit parts.first.1) step place.next in
    let same : (place.first, value.first) ≡ step = some_same (place.first, value.first) step value.next in
    let p : IsNumber (2 ^ 32 - 1) parts.first.0 place.first = read_number (2 ^ 32 - 1) parts.first.0 place.first (omega arith) place.is in
    let v : IsNumber unit parts.first.1 value.first = read_number unit parts.first.1 value.first (omega arith) value.is in
    sym (ap pair_word same) ∙ ap₂ (λ (a b : List ℕ). a ++ 58 ∷ b) p.printed v.printed ∙ sym at.whole

steps_printed : (ws : List (List ℕ)) (steps : List (ℕ × ℕ)) → steps_said ws ≡ Some steps → map pair_word steps ≡ ws
steps_printed [] steps e = let same : [] ≡ steps = some_same [] steps e in ap (map pair_word) (sym same)
steps_printed (word ∷ ws) steps e =
    let one = chained (λ step. option_and_then (λ rest. Some (step ∷ rest)) (steps_said ws)) (step_said word) steps e in
    let more = chained (λ rest. Some (one.first ∷ rest)) (steps_said ws) steps one.next in
    let same : one.first ∷ more.first ≡ steps = some_same (one.first ∷ more.first) steps more.next in
    sym (ap (map pair_word) same) ∙ ap₂ (λ (w : List ℕ) (rest : List (List ℕ)). w ∷ rest) (step_printed word one.first one.is) (steps_printed ws more.first more.is)

-- words, each after a space
joined : (step : ℕ × ℕ) (steps : List (ℕ × ℕ)) → flat_map pair_text (step ∷ steps) ≡ 32 ∷ join_with_byte 32 (map pair_word (step ∷ steps))
joined step [] = append-nil (pair_text step) ∙ pair_text_is step
joined step (next ∷ steps) = ap₂ (λ (a b : List ℕ). a ++ b) (pair_text_is step) (joined next steps)

rest_printed : (rest : List ℕ) (steps : List (ℕ × ℕ)) → steps_said (words rest) ≡ Some steps → flat_map pair_text steps ≡ 32 ∷ rest
rest_printed rest [] e =
    let none : [] ≡ words rest = steps_printed (words rest) [] e in
    absurd (omega (arith, length-slice_split (λ b. nat_eq b 32) rest, ap length none))
rest_printed rest (step ∷ steps) e =
    joined step steps ∙ ap (λ (ws : List (List ℕ)). 32 ∷ join_with_byte 32 ws) (steps_printed (words rest) (step ∷ steps) e) ∙ ap (λ (bs : List ℕ). 32 ∷ bs) (join_with_byte-slice_split 32 rest)

-- ---- a level

-- numbers that the form allows
abbrev AreNumbers : CertLevel → Type 0
AreNumbers (Steps steps) = Unit {0}
AreNumbers (OverFull work hyperperiod) = (work < 2 ^ 64) × (hyperperiod < 2 ^ 64)
AreNumbers (BeyondCap peak) = peak < 2 ^ 64

record IsPrinted (name kind rest : List ℕ) (level : CertLevel) : Type 0 where
  text : level_text name level ≡ kind ++ 32 ∷ (name ++ 32 ∷ rest)
  numbers : AreNumbers level

steps_line : (name kind rest : List ℕ) (level : CertLevel) → kind ≡ codes "level" → option_map Steps (steps_said (words rest)) ≡ Some level → IsPrinted name kind rest level
unfolding level_head
steps_line name kind rest level is e =
    let said = mapped Steps (steps_said (words rest)) level e in
    let steps : List (ℕ × ℕ) = said.first in
    let printed : level_text name (Steps steps) ≡ kind ++ 32 ∷ (name ++ 32 ∷ rest) =
    ap (λ (bs : List ℕ). codes "level " ++ (name ++ bs)) (rest_printed rest steps said.is) ∙ ap (λ (k : List ℕ). k ++ 32 ∷ (name ++ 32 ∷ rest)) (sym is) in
    subst (IsPrinted name kind rest) said.made (record { text = printed; numbers = tt })

overfull_line : (name kind rest after : List ℕ) (level : CertLevel) → kind ≡ codes "none" → rest ≡ codes "overfull" ++ 32 ∷ after → option_and_then overfull_in (cut 32 after) ≡ Some level → IsPrinted name kind rest level
unfolding overfull_text
overfull_line name kind rest after level is reason e =
    let parts = chained overfull_in (cut 32 after) level e in
    let at : IsCut 32 after parts.first.0 parts.first.1 = cut_found 32 after parts.first.0 parts.first.1 parts.is in
    let work = chained (λ work. option_and_then (λ hyperperiod. Some (OverFull work hyperperiod)) (number_within 0 (2 ^ 64 - 1) parts.first.1)) (number_within 0 (2 ^ 64 - 1) parts.first.0) level parts.next in
    let hyper = chained (λ hyperperiod. Some (OverFull work.first hyperperiod)) (number_within 0 (2 ^ 64 - 1) parts.first.1) level work.next in
    let w : IsNumber (2 ^ 64 - 1) parts.first.0 work.first = read_number (2 ^ 64 - 1) parts.first.0 work.first (omega arith) work.is in
    let h : IsNumber (2 ^ 64 - 1) parts.first.1 hyper.first = read_number (2 ^ 64 - 1) parts.first.1 hyper.first (omega arith) hyper.is in
    let same : OverFull work.first hyper.first ≡ level = some_same (OverFull work.first hyper.first) level hyper.next in
    let written : decimal work.first ++ 32 ∷ decimal hyper.first ≡ after = ap₂ (λ (a b : List ℕ). a ++ 32 ∷ b) w.printed h.printed ∙ sym at.whole in
    let printed : level_text name (OverFull work.first hyper.first) ≡ kind ++ 32 ∷ (name ++ 32 ∷ rest) =
    assoc_of_6 (codes "none ") name (codes " overfull ") (decimal work.first) (codes " ") (decimal hyper.first)
    ∙ ap (λ (bs : List ℕ). codes "none " ++ (name ++ (codes " overfull " ++ bs))) written
    ∙ ap₂ (λ (k r : List ℕ). k ++ 32 ∷ (name ++ 32 ∷ r)) (sym is) (sym reason) in
    subst (IsPrinted name kind rest) same (record { text = printed; numbers = (omega (arith, w.small), omega (arith, h.small)) })

beyond_line : (name kind rest after : List ℕ) (level : CertLevel) → kind ≡ codes "none" → rest ≡ codes "beyondcap" ++ 32 ∷ after → option_map BeyondCap (number_within 0 (2 ^ 64 - 1) after) ≡ Some level → IsPrinted name kind rest level
unfolding beyond_text
beyond_line name kind rest after level is reason e =
    let peak = mapped BeyondCap (number_within 0 (2 ^ 64 - 1) after) level e in
    let p : IsNumber (2 ^ 64 - 1) after peak.first = read_number (2 ^ 64 - 1) after peak.first (omega arith) peak.is in
    let printed : level_text name (BeyondCap peak.first) ≡ kind ++ 32 ∷ (name ++ 32 ∷ rest) =
    assoc_of_4 (codes "none ") name (codes " beyondcap ") (decimal peak.first)
    ∙ ap (λ (bs : List ℕ). codes "none " ++ (name ++ (codes " beyondcap " ++ bs))) p.printed
    ∙ ap₂ (λ (k r : List ℕ). k ++ 32 ∷ (name ++ 32 ∷ r)) (sym is) (sym reason) in
    subst (IsPrinted name kind rest) peak.made (record { text = printed; numbers = omega (arith, p.small) })

-- the answers of a choice
choose : {A : Type 0} (t : Bool) (a b : Option A) (y : A) (P : Type 0) → (if t then a else b) ≡ Some y → (t ≡ true → a ≡ Some y → P) → (b ≡ Some y → P) → P
choose true a b y P e f g = f refl e
choose false a b y P e f g = g e

reason_line : (name kind rest : List ℕ) (level : CertLevel) → kind ≡ codes "none" → option_and_then reason_in (cut 32 rest) ≡ Some level → IsPrinted name kind rest level
reason_line name kind rest level is e =
    let parts = chained reason_in (cut 32 rest) level e in
    let why : List ℕ = parts.first.0 in
    let after : List ℕ = parts.first.1 in
    let at : IsCut 32 rest why after = cut_found 32 rest why after parts.is in
    let is_why : (word : List ℕ) → bytes_eq why word ≡ true → rest ≡ word ++ 32 ∷ after = λ word t. at.whole ∙ ap (λ (w : List ℕ). w ++ 32 ∷ after) (same_bytes why word t) in
    choose (bytes_eq why (codes "overfull")) (option_and_then overfull_in (cut 32 after)) (if bytes_eq why (codes "beyondcap") then option_map BeyondCap (number_within 0 (2 ^ 64 - 1) after) else None) level (IsPrinted name kind rest level) parts.next
    (λ t h. overfull_line name kind rest after level is (is_why (codes "overfull") t) h)
    (λ h. let other = held (bytes_eq why (codes "beyondcap")) (option_map BeyondCap (number_within 0 (2 ^ 64 - 1) after)) level h in
    beyond_line name kind rest after level is (is_why (codes "beyondcap") other.test) other.is)

level_line : (name kind rest : List ℕ) (level : CertLevel) → level_said kind rest ≡ Some level → IsPrinted name kind rest level
level_line name kind rest level e =
    choose (bytes_eq kind (codes "level")) (option_map Steps (steps_said (words rest))) (if bytes_eq kind (codes "none") then option_and_then reason_in (cut 32 rest) else None) level (IsPrinted name kind rest level) e
    (λ t h. steps_line name kind rest level (same_bytes kind (codes "level") t) h)
    (λ h. let other = held (bytes_eq kind (codes "none")) (option_and_then reason_in (cut 32 rest)) level h in
    reason_line name kind rest level (same_bytes kind (codes "none") other.test) other.is)

-- ---- a line

record IsSaid (line name : List ℕ) (level : CertLevel) : Type 0 where
  text : level_text name level ≡ line
  numbers : AreNumbers level

said_printed : (line name : List ℕ) (level : CertLevel) → line_said line ≡ Some (name, level) → IsSaid line name level
said_printed line name level e =
    let kind = chained (λ (parts : List ℕ × List ℕ). option_and_then (named_in parts.0) (cut 32 parts.1)) (cut 32 line) (name, level) e in
    let own = chained (named_in kind.first.0) (cut 32 kind.first.1) (name, level) kind.next in
    let good = held (is_good_name own.first.0) (option_map (λ (level : CertLevel). (own.first.0, level)) (level_said kind.first.0 own.first.1)) (name, level) own.next in
    let said = mapped (λ (level : CertLevel). (own.first.0, level)) (level_said kind.first.0 own.first.1) (name, level) good.is in
    let one : IsCut 32 line kind.first.0 kind.first.1 = cut_found 32 line kind.first.0 kind.first.1 kind.is in
    let two : IsCut 32 kind.first.1 own.first.0 own.first.1 = cut_found 32 kind.first.1 own.first.0 own.first.1 own.is in
    let same_name : own.first.0 ≡ name = ap (λ (s : List ℕ × CertLevel). s.0) said.made in
    let same_level : said.first ≡ level = ap (λ (s : List ℕ × CertLevel). s.1) said.made in
    let printed = level_line own.first.0 kind.first.0 own.first.1 said.first said.is in
    let whole : kind.first.0 ++ 32 ∷ (own.first.0 ++ 32 ∷ own.first.1) ≡ line = ap (λ (bs : List ℕ). kind.first.0 ++ 32 ∷ bs) (sym two.whole) ∙ sym one.whole in
    record {
      text = sym (ap₂ level_text same_name same_level) ∙ printed.text ∙ whole;
      numbers = subst AreNumbers same_level printed.numbers;
    }

faultless_is : (cap n : ℕ) (level : CertLevel) → AreNumbers level → level_fault cap n level ≡ None → IsLevel cap level
faultless_is cap n (Steps steps) numbers h = steps_faultless cap n steps h
faultless_is cap n (OverFull work hyperperiod) numbers h = numbers
faultless_is cap n (BeyondCap peak) numbers h = numbers

record IsGoodLine (cap : ℕ) (name line : List ℕ) : Type 0 where
  text : level_text name (level_of line) ≡ line
  level : IsLevel cap (level_of line)

line_printed : (cap n : ℕ) (name line : List ℕ) → line_fault cap name n line ≡ None → IsGoodLine cap name line
line_printed cap n name line h =
    elim (option_cases (line_said line)) [
      | inl none ↦ let no : said_fault cap name n None ≡ None = rw none at h in absurd (some_none (BadLine n) no)
      | inr some ↦
          let own : List ℕ = some.0.0 in
          let level : CertLevel = some.0.1 in
          let fault : or_else (when (not (bytes_eq own name)) (WrongTask n)) (level_fault cap n level) ≡ None = ap (said_fault cap name n) (sym some.1) ∙ h in
          let same : own ≡ name = same_bytes own name (passes (bytes_eq own name) (WrongTask n) (first_none (when (not (bytes_eq own name)) (WrongTask n)) (level_fault cap n level) fault)) in
          let no_fault : level_fault cap n level ≡ None = next_none (when (not (bytes_eq own name)) (WrongTask n)) (level_fault cap n level) fault in
          let said : IsSaid line own level = said_printed line own level some.1 in
          let is : level_of line ≡ level = ap (λ (said : Option (List ℕ × CertLevel)). unwrap_or (option_map (λ said. said.1) said) (Steps [])) some.1 in
          record {
            text = ap₂ level_text (sym same) is ∙ said.text;
            level = subst (IsLevel cap) (sym is) (faultless_is cap n level said.numbers no_fault);
          }
    ]
  where
    some_none : {X : Type 0} (x : X) → Some x ≡ None → ⊥
    some_none x e = cc

-- ---- all lines

-- a line without a fault is there, and is followed by what its fault is about
pub record HasLine (n : ℕ) (fault : List ℕ × List ℕ → Option CertFault) (bytes : List ℕ) : Type 0 where
  pub parts : List ℕ × List ℕ
  pub found : cut 10 bytes ≡ Some parts
  pub at : IsCut 10 bytes parts.0 parts.1
  pub faultless : fault parts ≡ None

pub has_line : (n : ℕ) (fault : List ℕ × List ℕ → Option CertFault) (bytes : List ℕ) → in_line n fault (cut 10 bytes) ≡ None → HasLine n fault bytes
has_line n fault bytes h =
    elim (option_cases (cut 10 bytes)) [
      | inl none ↦ let no : in_line n fault None ≡ None = rw none at h in absurd (some_none (BadLine n) no)
      | inr some ↦ record { parts = some.0; found = some.1; at = cut_found 10 bytes some.0.0 some.0.1 some.1; faultless = ap (in_line n fault) (sym some.1) ∙ h }
    ]
  where
    some_none : {X : Type 0} (x : X) → Some x ≡ None → ⊥
    some_none x e = cc

record AreLines (cap : ℕ) (tasks : List Task) (bytes : List ℕ) : Type 0 where
  count : length (levels_in tasks bytes) ≡ length tasks
  each : All (IsLevel cap) (levels_in tasks bytes)
  text : level_lines tasks (levels_in tasks bytes) ++ codes "end\n" ≡ bytes

lines_printed : (cap n : ℕ) (tasks : List Task) (bytes : List ℕ) → lines_fault cap tasks n bytes ≡ None → AreLines cap tasks bytes
lines_printed cap n [] bytes h =
    let line = has_line n (end_fault n) bytes h in
    let first = when (not (bytes_eq line.parts.0 (codes "end"))) (BadLine n) in
    let second = when (not (nat_eq (length line.parts.1) 0)) (BadLine (n + 1)) in
    let is_end : line.parts.0 ≡ codes "end" = same_bytes line.parts.0 (codes "end") (passes (bytes_eq line.parts.0 (codes "end")) (BadLine n) (first_none first second line.faultless)) in
    let nothing : length line.parts.1 ≡ 0 = eqb-true (length line.parts.1) 0 (passes (nat_eq (length line.parts.1) 0) (BadLine (n + 1)) (next_none first second line.faultless)) in
    record {
      count = refl;
      each = All-nil (IsLevel cap);
      text = sym (line.at.whole ∙ ap₂ (λ (a b : List ℕ). a ++ 10 ∷ b) is_end (nil_from_length line.parts.1 nothing));
    }
lines_printed cap n (task ∷ tasks) bytes h =
    let line = has_line n (λ parts. or_else (line_fault cap task.name n parts.0) (lines_fault cap tasks (n + 1) parts.1)) bytes h in
    let first : List ℕ = line.parts.0 in
    let rest : List ℕ = line.parts.1 in
    let good : IsGoodLine cap task.name first = line_printed cap n task.name first (first_none (line_fault cap task.name n first) (lines_fault cap tasks (n + 1) rest) line.faultless) in
    let later : AreLines cap tasks rest = lines_printed cap (n + 1) tasks rest (next_none (line_fault cap task.name n first) (lines_fault cap tasks (n + 1) rest) line.faultless) in
    let levels : levels_in (task ∷ tasks) bytes ≡ level_of first ∷ levels_in tasks rest = ap (λ (o : Option (List ℕ × List ℕ)). level_of (unwrap_or o ([], [])).0 ∷ levels_in tasks (unwrap_or o ([], [])).1) line.found in
    let own : List ℕ = level_text task.name (level_of first) in
    let lines : List ℕ = level_lines tasks (levels_in tasks rest) in
    let end : List ℕ = codes "end\n" in
    record {
      count = ap length levels ∙ ap suc later.count;
      each = subst (All (IsLevel cap)) (sym levels) (All-cons (IsLevel cap) (level_of first) (levels_in tasks rest) good.level later.each);
      text =
          ap (λ (ls : List CertLevel). level_lines (task ∷ tasks) ls ++ end) levels
          ∙ append_assoc (own ++ codes "\n") lines end ∙ append_assoc own (codes "\n") (lines ++ end)
          ∙ ap₂ (λ (a b : List ℕ). a ++ 10 ∷ b) good.text later.text ∙ sym line.at.whole;
    }

pub read_texts_are_printed : ReadTextsArePrinted
read_texts_are_printed tasks cap bytes h =
    let line = has_line 1 (title_fault tasks cap) bytes (next_none (when (nat_lt CERT_LIMIT (length bytes)) TooLong) (in_line 1 (title_fault tasks cap) (cut 10 bytes)) h) in
    let head : List ℕ = line.parts.0 in
    let rest : List ℕ = line.parts.1 in
    let first = when (not (bytes_eq head title)) (BadLine 1) in
    let is_title : head ≡ title = same_bytes head title (passes (bytes_eq head title) (BadLine 1) (first_none first (lines_fault cap tasks 2 rest) line.faultless)) in
    let later : AreLines cap tasks rest = lines_printed cap 2 tasks rest (next_none first (lines_fault cap tasks 2 rest) line.faultless) in
    let levels : levels_of tasks bytes ≡ levels_in tasks rest = ap (λ (o : Option (List ℕ × List ℕ)). levels_in tasks (unwrap_or o ([], [])).1) line.found in
    let lines : List ℕ = level_lines tasks (levels_in tasks rest) in
    record {
      levels = record {
        count = ap length levels ∙ later.count;
        each = subst (All (IsLevel cap)) (sym levels) later.each;
      };
      printed =
          ap (λ (ls : List CertLevel). cert_text tasks ls) levels
          ∙ append_assoc (title ++ codes "\n") lines (codes "end\n")
          ∙ ap₂ (λ (a b : List ℕ). a ++ 10 ∷ b) (sym is_title) later.text ∙ sym line.at.whole;
    }
