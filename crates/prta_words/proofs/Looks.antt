-- What a word looks like to `clap`, by the tests of the definition of good words.
use Rattle.std.proofs.Common.{◌≡◌, ◌≢◌, ◌<◌, ◌∷◌, ℕ, zero, suc, Bool, true, false, List, [], length, get_or, Some, None, refl, sym, ap, arith, true≢false, codes}
use Rattle.std.specs.Str.{encode_utf8_all}
use Rattle.std.specs.Prelude.{◌==◌, bytes_eq, IsUtf8, slice_get}
use Rattle.std.specs.Str.{chars}
use Rattle.std.specs.List.{before_first}
use Rattle.std.proofs.lemmas.Bool.{eqb-true, eqb-false, or_parts}
use Rattle.std.proofs.lemmas.Slice.Eq.{bytes_eq-Decides}
use Rattle.std.proofs.lemmas.Str.{encodes-chars, IsUtf8-drop, IsCharBoundary-after_ascii}
use Rattle.clap.proofs.CutLemmas.{Lacks, before_first-Lacks}
use Rattle.clap.specs.Lexer.{has_byte, long_of, name_and_value, short_of}
use Rattle.prta_words.specs.Words.{begins_with_dash, is_double_dash}

-- a word that no option can be
pub record IsPlain (word : List ℕ) : Type 0 where
  pub no_long : long_of word ≡ None
  pub no_short : short_of word ≡ None
  pub no_dashes : is_double_dash word ≡ false

one_byte : (x : ℕ) → IsPlain (x ∷ [])
one_byte x = by (x == 45) refl
  where
    by : (b : Bool) → (x == 45) ≡ b → IsPlain (x ∷ [])
    by true e = record { no_long = rw e refl; no_short = rw e refl; no_dashes = rw e refl }
    by false e = record { no_long = rw e refl; no_short = rw e refl; no_dashes = rw e refl }

pub plain-word : (word : List ℕ) → begins_with_dash word ≡ false → IsPlain word
plain-word [] e = record { no_long = refl; no_short = refl; no_dashes = refl }
plain-word (x ∷ []) e = one_byte x
plain-word (x ∷ y ∷ rest) e = record { no_long = rw e refl; no_short = rw e refl; no_dashes = rw e refl }

-- a word that begins with a dash is `--`, or has a long name and maybe a value, or a bundle of flags
pub data Looks (word : List ℕ) : Type 0 where
  dashes : word ≡ codes "--" → Looks word
  long : (rest : List ℕ) → word ≡ 45 ∷ 45 ∷ rest → long_of word ≡ Some (name_and_value rest) → is_double_dash word ≡ false → Looks word
  short : (y : ℕ) (rest : List ℕ) → word ≡ 45 ∷ y ∷ rest → long_of word ≡ None → short_of word ≡ Some (y ∷ rest) → is_double_dash word ≡ false → Looks word

pub looks : (word : List ℕ) → begins_with_dash word ≡ true → Looks word
looks [] e = absurd (true≢false (sym e))
looks (x ∷ []) e = absurd (true≢false (sym e))
looks (x ∷ y ∷ rest) e = rw (eqb-true x 45 e) (by (y == 45) refl rest)
  where
    by : (b : Bool) → (y == 45) ≡ b → (rest : List ℕ) → Looks (45 ∷ y ∷ rest)
    by true f [] = dashes (rw (eqb-true y 45 f) refl)
    by true f (z ∷ rest) = long (z ∷ rest) (rw (eqb-true y 45 f) refl) (rw f refl) (rw f refl)
    by false f rest = short y rest refl (rw f refl) (rw f refl) (rw f refl)

-- the flag begins with a dash
pub flag-dashed : (word : List ℕ) → bytes_eq word (codes "--csv") ≡ true → word ≡ codes "--csv"
flag-dashed word e = (bytes_eq-Decides word (codes "--csv")).0 e

pub dashes-is : (word : List ℕ) → is_double_dash word ≡ true → word ≡ codes "--"
dashes-is word e = (bytes_eq-Decides word (codes "--")).0 e

-- a text that is not empty has a first character
pub first-char : (text : List ℕ) → IsUtf8 text → 0 < length text → (x : ℕ) × (slice_get (chars text) 0 ≡ Some x)
first-char text u some = go (chars text) (encodes-chars text u)
  where
    go : (cs : List ℕ) → encode_utf8_all cs ≡ text → (x : ℕ) × (slice_get cs 0 ≡ Some x)
    go [] e = let none : length text ≡ 0 = ap length (sym e) in absurd (omega arith)
    go (x ∷ cs) e = (x, refl)

-- what stands after a first dash is text
pub after-dash : (rest : List ℕ) → IsUtf8 (45 ∷ rest) → IsUtf8 rest
after-dash rest u = IsUtf8-drop (45 ∷ rest) 1 u (IsCharBoundary-after_ascii (45 ∷ rest) 0 u (omega arith) (omega arith))

-- a name with no `=` is the whole of what follows the dashes
lacks : (rest : List ℕ) → has_byte 61 rest ≡ false → Lacks 61 rest
lacks [] e = λ i lt. absurd (omega arith)
lacks (x ∷ xs) e = at (or_parts (x == 61) (has_byte 61 xs) e).0 (lacks xs (or_parts (x == 61) (has_byte 61 xs) e).1)
  where
    at : (x == 61) ≡ false → Lacks 61 xs → Lacks 61 (x ∷ xs)
    at f more = λ i lt. by i lt
      where
        by : (i : ℕ) → i < suc (length xs) → get_or (x ∷ xs) i 0 ≢ 61
        by zero lt = eqb-false x 61 f
        by (suc i) lt = more i (omega arith)

pub whole-name : (rest : List ℕ) → has_byte 61 rest ≡ false → before_first (λ x. x == 61) rest ≡ rest
whole-name rest e = before_first-Lacks 61 rest (lacks rest e)
