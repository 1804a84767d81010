-- The command with three names, and its machine.
use Rattle.std.proofs.Common.{◌≡◌, ◌≤◌, ◌∷◌, ◌∙◌, ◌⊎◌, inl, inr, ℕ, Bool, true, false, List, [], length, Option, Some, None, refl, sym, ap, arith, codes, true≢false}
use Rattle.std.specs.Prelude.{All, IsUtf8}
use Rattle.clap.specs.Lexer.{name_and_value}
use Rattle.clap.specs.Walk.{Held, Text, arg_by_long, finished, first_of, nothing_held, used}
use Rattle.clap.specs.Simple.{Shape, built, filled, is_simple, matches_of, with_index}
use Rattle.clap.specs.Faults.{fault_of, is_simple_and_free, level_fault, long_fault}
use Rattle.clap.specs.declared.error.kind.ErrorKind.TheVariants as kind
use Rattle.clap.proofs.FaultLemmas.{leaf_fault}
use Rattle.clap.proofs.OnLiterals.{clap_on_literals}
use Rattle.prta_words.specs.Commands.{name_rule, triple}
use Rattle.prta_words.specs.Words.{are_good, is_flag, positional_words}
use Rattle.prta_words.proofs.Machine.{EndIs, Machine, PutIs, Refuses, Takes, verdict}
use Rattle.prta_words.proofs.Walks.{IsFault, fault-as}

abbrev shape : Shape
shape = (built triple).top

data Stand : Type 0 where
  none : Stand
  one : Text → Stand
  two : Text → Text → Stand
  three : Text → Text → Text → Stand

abbrev held : Stand → Held
held none = nothing_held
held (one a) = record nothing_held { pending = Some (codes "first", a ∷ []) }
held (two a b) = record nothing_held {
  rows = used (with_index 1 (filled (name_rule (codes "first")))) (a ∷ []) [];
  pending = Some (codes "second", b ∷ []);
}
held (three a b c) = record nothing_held {
  rows = used (with_index 2 (filled (name_rule (codes "second")))) (b ∷ []) (used (with_index 1 (filled (name_rule (codes "first")))) (a ∷ []) []);
  pending = Some (codes "third", c ∷ []);
}

abbrev position : Stand → ℕ
position none = 1
position (one a) = 2
position (two a b) = 3
position (three a b c) = 4

abbrev names : Stand → List Text
names none = []
names (one a) = a ∷ []
names (two a b) = a ∷ b ∷ []
names (three a b c) = a ∷ b ∷ c ∷ []

abbrev put : Stand → Text → Option Stand
put none a = Some (one a)
put (one a) b = Some (two a b)
put (two a b) c = Some (three a b c)
put (three a b c) d = None

-- no long flag is one of the command's
longs : (x : Stand) (rest : Text) → is_flag false (45 ∷ 45 ∷ rest) ≡ false
    → IsFault (long_fault shape.rules shape.args_override_self (arg_by_long shape.rules (name_and_value rest).0) (name_and_value rest).1 (held x))
longs x rest other = (kind.UnknownArgument, [], refl)

puts : (x : Stand) (t : Bool) (word : Text) → PutIs shape 3 held position names (λ _. 0) x t word (put x word)
unfolding clap_on_literals
puts none true word = (refl, refl, refl, refl)
puts none false word = (refl, refl, refl, refl)
puts (one a) true word = (refl, refl, refl, refl)
puts (one a) false word = (refl, refl, refl, refl)
puts (two a b) true word = (refl, refl, refl, refl)
puts (two a b) false word = (refl, refl, refl, refl)
puts (three a b c) t word = ((kind.UnknownArgument, [], refl), refl)

ends : (x : Stand) → EndIs shape 3 held names x
unfolding clap_on_literals
ends none = (kind.MissingRequiredArgument, [], refl)
ends (one a) = (kind.MissingRequiredArgument, [], refl)
ends (two a b) = (kind.MissingRequiredArgument, [], refl)
ends (three a b c) = refl

skips : (x : Stand) → (held x).skip ≡ 0
skips none = refl
skips (one a) = refl
skips (two a b) = refl
skips (three a b c) = refl

fits : (x : Stand) → length (names x) ≤ 3
fits none = omega arith
fits (one a) = omega arith
fits (two a b) = omega arith
fits (three a b c) = omega arith

machine : Machine Stand shape false 3
unfolding clap_on_literals
machine = record {
  held = held;
  position = position;
  words = names;
  flags = λ _. 0;
  put = put;
  flag = λ _. None;
  skips = skips;
  fits = fits;
  once = λ x. omega arith;
  shorts = λ c. refl;
  longs = longs;
  puts = puts;
  flagged = λ e. absurd (true≢false (sym e));
  start = none;
  begins = refl;
  no_words = refl;
  no_flags = refl;
  ends = ends;
}

-- what the matches say at a stand with its three names
record Says (x : Stand) : Type 0 where
  pub first : Text
  pub second : Text
  pub third : Text
  pub named : names x ≡ first ∷ second ∷ third ∷ []
  pub first_is : first_of (codes "first") (finished shape.rules (held x)) ≡ Some first
  pub second_is : first_of (codes "second") (finished shape.rules (held x)) ≡ Some second
  pub third_is : first_of (codes "third") (finished shape.rules (held x)) ≡ Some third

says : (x : Stand) → length (names x) ≡ 3 → Says x
says none e = absurd (omega (arith, e))
says (one a) e = absurd (omega (arith, e))
says (two a b) e = absurd (omega (arith, e))
says (three a b c) e = record { first = a; second = b; third = c; named = refl; first_is = refl; second_is = refl; third_is = refl }

pub record Bad (words : List Text) : Type 0 where
  pub not_good : are_good false 3 words ≡ false
  pub fault : IsFault (fault_of triple words)

pub record Good (words : List Text) : Type 0 where
  pub good : are_good false 3 words ≡ true
  pub no_fault : fault_of triple words ≡ []
  pub first : Text
  pub second : Text
  pub third : Text
  pub named : positional_words false words ≡ first ∷ second ∷ third ∷ []
  pub first_is : first_of (codes "first") (matches_of triple words) ≡ Some first
  pub second_is : first_of (codes "second") (matches_of triple words) ≡ Some second
  pub third_is : first_of (codes "third") (matches_of triple words) ≡ Some third

-- `clap` refuses the words that are not good, and no others
pub judge : (words : List Text) → All IsUtf8 words → Bad words ⊎ Good words
unfolding machine
judge words u = by (verdict machine words u)
  where
    level : fault_of triple words ≡ level_fault shape [] nothing_held words false []
    level = leaf_fault (built triple) nothing_held words refl

    by : Refuses machine words ⊎ Takes machine words → Bad words ⊎ Good words
    by (inl r) = inl (record { not_good = r.not_good; fault = fault-as _ _ level r.fault })
    by (inr t) =
        let said = says t.last t.full in
        inr (record {
          good = t.good;
          no_fault = level ∙ t.no_fault;
          first = said.first;
          second = said.second;
          third = said.third;
          named = t.read ∙ said.named;
          first_is = ap (first_of (codes "first")) t.rows ∙ said.first_is;
          second_is = ap (first_of (codes "second")) t.rows ∙ said.second_is;
          third_is = ap (first_of (codes "third")) t.rows ∙ said.third_is;
        })

pub is_free : is_simple_and_free triple ≡ true
is_free = refl

pub simple : is_simple triple ≡ true
simple = refl
