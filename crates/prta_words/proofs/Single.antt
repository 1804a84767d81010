-- The command with one name and no flag, and its machine.
use Rattle.std.proofs.Common.{◌≡◌, ◌≤◌, ◌∷◌, ◌∙◌, ◌⊎◌, inl, inr, ℕ, Bool, true, false, List, [], length, Option, Some, None, refl, sym, ap, arith, codes, true≢false}
use Rattle.std.specs.Prelude.{All, IsUtf8}
use Rattle.clap.specs.Lexer.{name_and_value}
use Rattle.clap.specs.Walk.{Held, Text, arg_by_long, finished, first_of, nothing_held}
use Rattle.clap.specs.Simple.{Shape, built, is_simple, matches_of}
use Rattle.clap.specs.Faults.{fault_of, is_simple_and_free, level_fault, long_fault}
use Rattle.clap.specs.declared.error.kind.ErrorKind.TheVariants as kind
use Rattle.clap.proofs.FaultLemmas.{leaf_fault}
use Rattle.clap.proofs.OnLiterals.{clap_on_literals}
use Rattle.prta_words.specs.Commands.{single}
use Rattle.prta_words.specs.Words.{are_good, is_flag, positional_words}
use Rattle.prta_words.proofs.Machine.{EndIs, Machine, PutIs, Refuses, Takes, verdict}
use Rattle.prta_words.proofs.Walks.{IsFault, fault-as}

abbrev shape : Shape
shape = (built single).top

data Stand : Type 0 where
  none : Stand
  one : Text → Stand

abbrev held : Stand → Held
held none = nothing_held
held (one a) = record nothing_held { pending = Some (codes "name", a ∷ []) }

abbrev position : Stand → ℕ
position none = 1
position (one a) = 2

abbrev names : Stand → List Text
names none = []
names (one a) = a ∷ []

abbrev put : Stand → Text → Option Stand
put none a = Some (one a)
put (one a) b = None

-- no long flag is one of the command's
longs : (x : Stand) (rest : Text) → is_flag false (45 ∷ 45 ∷ rest) ≡ false
    → IsFault (long_fault shape.rules shape.args_override_self (arg_by_long shape.rules (name_and_value rest).0) (name_and_value rest).1 (held x))
longs x rest other = (kind.UnknownArgument, [], refl)

puts : (x : Stand) (t : Bool) (word : Text) → PutIs shape 1 held position names (λ _. 0) x t word (put x word)
unfolding clap_on_literals
puts none true word = (refl, refl, refl, refl)
puts none false word = (refl, refl, refl, refl)
puts (one a) t word = ((kind.UnknownArgument, [], refl), refl)

ends : (x : Stand) → EndIs shape 1 held names x
unfolding clap_on_literals
ends none = (kind.MissingRequiredArgument, [], refl)
ends (one a) = refl

skips : (x : Stand) → (held x).skip ≡ 0
skips none = refl
skips (one a) = refl

fits : (x : Stand) → length (names x) ≤ 1
fits none = omega arith
fits (one a) = omega arith

machine : Machine Stand shape false 1
unfolding clap_on_literals
machine = record {
  held = held;
  position = position;
  words = names;
  flags = λ _. 0;
  put = put;
  flag = λ _. None;
  skips = skips;
  fits = fits;
  once = λ x. omega arith;
  shorts = λ c. refl;
  longs = longs;
  puts = puts;
  flagged = λ e. absurd (true≢false (sym e));
  start = none;
  begins = refl;
  no_words = refl;
  no_flags = refl;
  ends = ends;
}

-- what the matches say at a stand with its two names
record Says (x : Stand) : Type 0 where
  pub name : Text
  pub named : names x ≡ name ∷ []
  pub name_is : first_of (codes "name") (finished shape.rules (held x)) ≡ Some name

says : (x : Stand) → length (names x) ≡ 1 → Says x
says none e = absurd (omega (arith, e))
says (one a) e = record { name = a; named = refl; name_is = refl }

pub record Bad (words : List Text) : Type 0 where
  pub not_good : are_good false 1 words ≡ false
  pub fault : IsFault (fault_of single words)

pub record Good (words : List Text) : Type 0 where
  pub good : are_good false 1 words ≡ true
  pub no_fault : fault_of single words ≡ []
  pub name : Text
  pub named : positional_words false words ≡ name ∷ []
  pub name_is : first_of (codes "name") (matches_of single words) ≡ Some name

-- `clap` refuses the words that are not good, and no others
pub judge : (words : List Text) → All IsUtf8 words → Bad words ⊎ Good words
unfolding machine
judge words u = by (verdict machine words u)
  where
    level : fault_of single words ≡ level_fault shape [] nothing_held words false []
    level = leaf_fault (built single) nothing_held words refl

    by : Refuses machine words ⊎ Takes machine words → Bad words ⊎ Good words
    by (inl r) = inl (record { not_good = r.not_good; fault = fault-as _ _ level r.fault })
    by (inr t) =
        let said = says t.last t.full in
        inr (record {
          good = t.good;
          no_fault = level ∙ t.no_fault;
          name = said.name;
          named = t.read ∙ said.named;
          name_is = ap (first_of (codes "name")) t.rows ∙ said.name_is;
        })

pub is_free : is_simple_and_free single ≡ true
is_free = refl

pub simple : is_simple single ≡ true
simple = refl
