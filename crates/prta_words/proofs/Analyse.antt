-- The command with one name and the flag `--csv`, as `clap` sees it, and its machine.
use Rattle.std.proofs.Common.{◌≡◌, ◌≤◌, ◌∷◌, ◌∙◌, ◌⊎◌, inl, inr, ℕ, Bool, true, false, List, [], length, Option, Some, None, refl, sym, ap, arith, codes, true≢false}
use Rattle.std.specs.Prelude.{if◌then◌else◌, ◌==◌, bytes_eq, All, IsUtf8, MatchBool}
use Rattle.clap.specs.Lexer.{has_byte, name_and_value}
use Rattle.clap.specs.Walk.{Held, Row, Rule, Text, nothing_held, used}
use Rattle.clap.specs.Simple.{Shape, is_simple, matches_of, built, filled, with_index}
use Rattle.prta_words.specs.Commands.{analyse, csv_rule, name_rule}
use Rattle.clap.proofs.OnLiterals.{clap_on_literals}
use Rattle.std.specs.List.{after_first}
use Rattle.std.proofs.lemmas.Slice.Eq.{bytes_eq-Decides}
use Rattle.clap.specs.Walk.{arg_by_long, finished, first_of, one_of}
use Rattle.clap.specs.Faults.{fault_of, is_simple_and_free, level_fault, long_fault}
use Rattle.clap.proofs.FaultLemmas.{leaf_fault}
use Rattle.clap.specs.declared.error.kind.ErrorKind.TheVariants as kind
use Rattle.prta_words.proofs.Looks.{whole-name}
use Rattle.prta_words.proofs.Machine.{EndIs, FlagIs, Machine, PutIs, Refuses, Takes, verdict}
use Rattle.prta_words.proofs.Walks.{IsFault, fault-as}
use Rattle.prta_words.specs.Words.{are_good, flag_count, is_flag, positional_words}

abbrev pub sheet_built : Rule
sheet_built = with_index 1 (filled (name_rule (codes "sheet")))

abbrev pub csv_built : Rule
csv_built = filled csv_rule

abbrev pub shape : Shape
shape = (built analyse).top

pub data Stand : Type 0 where
  none : Stand
  csv : Stand
  sheet : Text → Stand
  csv_sheet : Text → Stand
  sheet_csv : Text → Stand

abbrev csv_rows : List Row
csv_rows = used csv_built [] []

abbrev pub held : Stand → Held
held none = nothing_held
held csv = record nothing_held { rows = csv_rows }
held (sheet a) = record nothing_held { pending = Some (codes "sheet", a ∷ []) }
held (csv_sheet a) = record nothing_held { rows = csv_rows; pending = Some (codes "sheet", a ∷ []) }
held (sheet_csv a) = record nothing_held { rows = used csv_built [] (used sheet_built (a ∷ []) []) }

abbrev pub position : Stand → ℕ
position none = 1
position csv = 1
position (sheet a) = 2
position (csv_sheet a) = 2
position (sheet_csv a) = 2

abbrev pub names : Stand → List Text
names none = []
names csv = []
names (sheet a) = a ∷ []
names (csv_sheet a) = a ∷ []
names (sheet_csv a) = a ∷ []

abbrev pub flags : Stand → ℕ
flags none = 0
flags csv = 1
flags (sheet a) = 0
flags (csv_sheet a) = 1
flags (sheet_csv a) = 1

abbrev pub put : Stand → Text → Option Stand
put none a = Some (sheet a)
put csv a = Some (csv_sheet a)
put _ a = None

abbrev pub flag : Stand → Option Stand
flag none = Some csv
flag (sheet a) = Some (sheet_csv a)
flag _ = None

-- a long flag that is not `--csv`
stops : (h : Held) (name : Text) (v : Option Text) → (bytes_eq (codes "csv") name ≡ true → v ≡ None → ⊥)
    → IsFault (long_fault shape.rules shape.args_override_self (arg_by_long shape.rules name) v h)
stops h name v other = by (bytes_eq (codes "csv") name) refl v refl
  where
    by : (b : Bool) → bytes_eq (codes "csv") name ≡ b → (u : Option Text) → v ≡ u
        → IsFault (long_fault shape.rules shape.args_override_self (arg_by_long shape.rules name) v h)
    by false e u is = (kind.UnknownArgument, [], rw e refl)
    by true e None is = absurd (other e is)
    by true e (Some t) is = (kind.TooManyValues, [], rw (is, e) refl)

no-value : (rest : Text) → (name_and_value rest).1 ≡ None → has_byte 61 rest ≡ false
no-value rest nothing = by (has_byte 61 rest) nothing
  where
    by : (b : Bool) → (if b then Some (after_first (λ x. x == 61) rest) else None) ≡ None → b ≡ false
    by true e = cc
    by false e = refl

longs : (x : Stand) (rest : Text) → is_flag true (45 ∷ 45 ∷ rest) ≡ false
    → IsFault (long_fault shape.rules shape.args_override_self (arg_by_long shape.rules (name_and_value rest).0) (name_and_value rest).1 (held x))
longs x rest other = stops (held x) (name_and_value rest).0 (name_and_value rest).1 (λ same nothing.
    let name = (bytes_eq-Decides (codes "csv") (name_and_value rest).0).0 same in
    let is : rest ≡ codes "csv" = sym (whole-name rest (no-value rest nothing)) ∙ sym name in
    true≢false (rw is at other))

puts : (x : Stand) (t : Bool) (word : Text) → PutIs shape 1 held position names flags x t word (put x word)
unfolding clap_on_literals
puts none true word = (refl, refl, refl, refl)
puts none false word = (refl, refl, refl, refl)
puts csv true word = (refl, refl, refl, refl)
puts csv false word = (refl, refl, refl, refl)
puts (sheet a) t word = ((kind.UnknownArgument, [], refl), refl)
puts (csv_sheet a) t word = ((kind.UnknownArgument, [], refl), refl)
puts (sheet_csv a) t word = ((kind.UnknownArgument, [], refl), refl)

flagged : (x : Stand) → FlagIs shape held position names flags x (flag x)
unfolding clap_on_literals
flagged none = ((refl, refl), refl, refl)
flagged csv = ((kind.ArgumentConflict, [], refl), refl)
flagged (sheet a) = ((refl, refl), refl, refl)
flagged (csv_sheet a) = ((kind.ArgumentConflict, [], refl), refl)
flagged (sheet_csv a) = ((kind.ArgumentConflict, [], refl), refl)

ends : (x : Stand) → EndIs shape 1 held names x
unfolding clap_on_literals
ends none = (kind.MissingRequiredArgument, [], refl)
ends csv = (kind.MissingRequiredArgument, [], refl)
ends (sheet a) = refl
ends (csv_sheet a) = refl
ends (sheet_csv a) = refl

pub machine : Machine Stand shape true 1
unfolding clap_on_literals
machine = record {
  held = held;
  position = position;
  words = names;
  flags = flags;
  put = put;
  flag = flag;
  skips = λ x. elim x as (λ x. (held x).skip ≡ 0) [ none ↦ refl | csv ↦ refl | sheet a ↦ refl | csv_sheet a ↦ refl | sheet_csv a ↦ refl ];
  fits = λ x. elim x as (λ x. length (names x) ≤ 1) [ none ↦ omega arith | csv ↦ omega arith | sheet a ↦ omega arith | csv_sheet a ↦ omega arith | sheet_csv a ↦ omega arith ];
  once = λ x. elim x as (λ x. flags x ≤ 1) [ none ↦ omega arith | csv ↦ omega arith | sheet a ↦ omega arith | csv_sheet a ↦ omega arith | sheet_csv a ↦ omega arith ];
  shorts = λ c. refl;
  longs = longs;
  puts = puts;
  flagged = λ e. flagged;
  start = none;
  begins = refl;
  no_words = refl;
  no_flags = refl;
  ends = ends;
}

-- what the matches say at a stand with its one name
record Says (x : Stand) : Type 0 where
  pub name : Text
  pub named : names x ≡ name ∷ []
  pub first : first_of (codes "sheet") (finished shape.rules (held x)) ≡ Some name
  pub flag : MatchBool (flags x == 1) (one_of (codes "csv") (finished shape.rules (held x)) ≡ Some (codes "true"))
      (one_of (codes "csv") (finished shape.rules (held x)) ≡ Some (codes "false"))

says : (x : Stand) → length (names x) ≡ 1 → Says x
says none e = absurd (omega (arith, e))
says csv e = absurd (omega (arith, e))
says (sheet a) e = record { name = a; named = refl; first = refl; flag = refl }
says (csv_sheet a) e = record { name = a; named = refl; first = refl; flag = refl }
says (sheet_csv a) e = record { name = a; named = refl; first = refl; flag = refl }

pub record Bad (words : List Text) : Type 0 where
  pub not_good : are_good true 1 words ≡ false
  pub fault : IsFault (fault_of analyse words)

pub record Good (words : List Text) : Type 0 where
  pub good : are_good true 1 words ≡ true
  pub no_fault : fault_of analyse words ≡ []
  pub name : Text
  pub named : positional_words true words ≡ name ∷ []
  pub first : first_of (codes "sheet") (matches_of analyse words) ≡ Some name
  pub flag : MatchBool (flag_count true words == 1) (one_of (codes "csv") (matches_of analyse words) ≡ Some (codes "true"))
      (one_of (codes "csv") (matches_of analyse words) ≡ Some (codes "false"))

-- `clap` refuses the words that are not good, and no others
pub judge : (words : List Text) → All IsUtf8 words → Bad words ⊎ Good words
unfolding machine
judge words u = by (verdict machine words u)
  where
    level : fault_of analyse words ≡ level_fault shape [] nothing_held words false []
    level = leaf_fault (built analyse) nothing_held words refl

    by : Refuses machine words ⊎ Takes machine words → Bad words ⊎ Good words
    by (inl r) = inl (record { not_good = r.not_good; fault = fault-as _ _ level r.fault })
    by (inr t) =
        let said = says t.last t.full in
        inr (record {
          good = t.good;
          no_fault = level ∙ t.no_fault;
          name = said.name;
          named = t.read ∙ said.named;
          first = ap (first_of (codes "sheet")) t.rows ∙ said.first;
          flag = rw (t.flagged, t.rows) said.flag;
        })

pub is_free : is_simple_and_free analyse ≡ true
is_free = refl

pub simple : is_simple analyse ≡ true
simple = refl
