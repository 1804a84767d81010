-- A walk of `clap` over words, word by word, for a command with positional words and long flags without values alone.
use Rattle.std.proofs.Common.{◌≡◌, ◌∷◌, ◌∙◌, ℕ, Bool, true, false, List, [], Some, None, refl, ap, arith, codes}
use Rattle.std.specs.Prelude.{fold, IsUtf8}
use Rattle.clap.specs.Lexer.{long_of, name_and_value, short_of}
use Rattle.clap.specs.Kinds.{Kinds, or_else}
use Rattle.clap.specs.Walk.{Held, Text, Walk, arg_by_index, arg_by_long, arg_by_short, idle, to_positional, value, walked, word_met}
use Rattle.clap.specs.Simple.{Shape}
use Rattle.clap.specs.Faults.{flags_fault, long_fault, step_fault, turn_fault, walk_fault, word_fault}
use Rattle.clap.specs.declared.error.kind.ErrorKind.{ErrorKind}
use Rattle.clap.specs.declared.error.kind.ErrorKind.TheVariants as kind
use Rattle.prta_words.proofs.Looks.{IsPlain, first-char}
use Rattle.prta_words.specs.Words.{is_double_dash}

-- some error comes
abbrev pub IsFault : Kinds → Type 0
IsFault kinds = (k : ErrorKind) × (ks : Kinds) × (kinds ≡ k ∷ ks)

pub fault-first : (a b : Kinds) → IsFault a → IsFault (or_else a b)
fault-first a b f = (f.0, f.1, ap (λ x. or_else x b) f.2)

pub fault-second : (a b : Kinds) → a ≡ [] → IsFault b → IsFault (or_else a b)
fault-second a b none f = (f.0, f.1, ap (λ x. or_else x b) none ∙ f.2)

pub fault-as : (a b : Kinds) → a ≡ b → IsFault b → IsFault a
fault-as a b e f = (f.0, f.1, e ∙ f.2)

-- a walk with nothing that waits
abbrev pub stand : Held → ℕ → Bool → Walk
stand h position is_trailing = record { held = h; waiting = idle; position = position; is_trailing = is_trailing; stopped = None }

-- one turn, with no error
abbrev pub Turns : Shape → Walk → Text → Walk → Type 0
Turns s w word after = (turn_fault s [] w word ≡ []) × (walked s.rules [] w word ≡ after)

-- all words, with no error
abbrev pub Goes : Shape → Walk → List Text → Walk → Type 0
Goes s w words after = (walk_fault s [] w words ≡ []) × (fold (walked s.rules []) w words ≡ after)

pub goes-none : (s : Shape) (w : Walk) → Goes s w [] w
unfolding walk_fault
goes-none s w = (refl, refl)

pub goes-more : (s : Shape) (w m after : Walk) (word : Text) (rest : List Text) → Turns s w word m → Goes s m rest after → Goes s w (word ∷ rest) after
unfolding walk_fault
goes-more s w m after word rest t g = (
  ap (λ x. or_else x (walk_fault s [] (walked s.rules [] w word) rest)) t.0 ∙ ap (λ x. walk_fault s [] x rest) t.1 ∙ g.0,
  ap (λ x. fold (walked s.rules []) x rest) t.1 ∙ g.1,
)

pub stops-here : (s : Shape) (w : Walk) (word : Text) (rest : List Text) → IsFault (turn_fault s [] w word) → IsFault (walk_fault s [] w (word ∷ rest))
unfolding walk_fault
stops-here s w word rest f = fault-first _ _ f

pub stops-later : (s : Shape) (w m : Walk) (word : Text) (rest : List Text) → Turns s w word m → IsFault (walk_fault s [] m rest) → IsFault (walk_fault s [] w (word ∷ rest))
unfolding walk_fault
stops-later s w m word rest t f = fault-second _ _ t.0 (fault-as _ _ (ap (λ x. walk_fault s [] x rest) t.1) f)

-- ---- one word

-- a word that goes to a positional, by its looks or behind `--`
abbrev pub IsValue : Bool → Text → Type 0
IsValue is_trailing word = is_trailing ≡ false → IsPlain word

pub value-fault : (s : Shape) (h : Held) (position : ℕ) (is_trailing : Bool) (word : Text) → IsValue is_trailing word
    → turn_fault s [] (stand h position is_trailing) word ≡ step_fault s position h value
value-fault s h position true word p = refl
value-fault s h position false word p =
    let q = p refl in rw (q.no_dashes, q.no_long, q.no_short) refl

pub value-walked : (s : Shape) (h : Held) (position : ℕ) (is_trailing : Bool) (word : Text) → IsValue is_trailing word
    → walked s.rules [] (stand h position is_trailing) word ≡ to_positional s.rules (arg_by_index s.rules position) word (stand h position is_trailing) h
unfolding walked
value-walked s h position true word p = refl
value-walked s h position false word p =
    let q = p refl in rw (q.no_dashes, q.no_long, q.no_short) refl

-- the first `--`
pub dashes-turn : (s : Shape) (h : Held) (position : ℕ) → Turns s (stand h position false) (codes "--") (stand h position true)
unfolding walked
dashes-turn s h position = (refl, refl)

-- the fault of a word is that of its turn
word-stops : (s : Shape) (h : Held) (position : ℕ) (word : Text) (k : Kinds) → word_fault s [] false idle word h ≡ k → IsFault k
    → IsFault (turn_fault s [] (stand h position false) word)
word-stops s h position word k is f =
    fault-first (word_fault s [] false idle word h)
    (step_fault s position (word_met s.rules [] false idle position word h).0 (word_met s.rules [] false idle position word h).1)
    (fault-as _ k is f)

-- a long flag
pub long-stops : (s : Shape) (h : Held) (position : ℕ) (word rest : Text) → is_double_dash word ≡ false → long_of word ≡ Some (name_and_value rest)
    → IsFault (long_fault s.rules s.args_override_self (arg_by_long s.rules (name_and_value rest).0) (name_and_value rest).1 h)
    → IsFault (turn_fault s [] (stand h position false) word)
long-stops s h position word rest single is f = word-stops s h position word _ (rw (single, is) refl) f

-- a bundle of flags, of a command with none
pub short-stops : (s : Shape) (h : Held) (position : ℕ) (word rest : Text) (y : ℕ) → ((x : ℕ) → arg_by_short s.rules x ≡ None) → h.skip ≡ 0
    → IsUtf8 (y ∷ rest) → is_double_dash word ≡ false → long_of word ≡ None → short_of word ≡ Some (y ∷ rest)
    → IsFault (turn_fault s [] (stand h position false) word)
unfolding flags_fault
short-stops s h position word rest y none skip u single long is =
    let c = first-char (y ∷ rest) u (omega arith) in
    let unknown : word_fault s [] false idle word h ≡ kind.UnknownArgument ∷ [] = rw (single, long, is, skip, c.1, none c.0) refl in
    word-stops s h position word (kind.UnknownArgument ∷ []) unknown (kind.UnknownArgument, [], refl)
