-- The values of the canonical text are TOML's texts of the values of the document.
use Rattle.std.proofs.Common.{◌≡◌, ℕ, true, false, ◌==◌, pos, List, [], ◌∷◌, ◌++◌, flat_map, codes, decimal, All, refl, ap, arith, append_assoc}
use Rattle.std.specs.Prelude.{FitsSigned}
use Rattle.std.specs.Int.{w64}
use Rattle.std.specs.List.{list_all, list_any}
use Rattle.std.proofs.lemmas.Bool.{and_parts}
use Rattle.std.proofs.lemmas.Bool.Decides.{nat_tests}
use Rattle.std.proofs.lemmas.List.Elements.{All-head, All-tail}
use Rattle.toml.specs.Data.{array, Items, no_items, item}
use Rattle.toml.specs.Text.{IsValueText, IsItemsText, breaks_lines}
use Rattle.toml_writer.specs.Text.{is_control, has, needs_escape, quotes_after, escaped, encoding_of, string_text}
use Rattle.prta_mass.specs.Table.{Table}
use Rattle.prta_sheet.specs.Accepted.{is_name_byte}
use Rattle.prta_sheet.specs.Canonical.{pair_text, next_pair_text, pairs_text, table_text, next_table_text, number_data, pair_data, pairs_data, tables_data, IsTomlNumber, IsTomlPair}

-- ---- names

clean : (name : List ℕ) → list_all is_name_byte name ≡ true → list_any is_control name ≡ false
clean [] good = refl
clean (b ∷ bs) good =
    let (here, later) = and_parts (is_name_byte b) (list_all is_name_byte bs) good in
    let none : is_control b ≡ false = grind (arith, nat_tests) in
    rw none (clean bs later)

lacks : (c : ℕ) (name : List ℕ) → is_name_byte c ≡ false → list_all is_name_byte name ≡ true → has c name ≡ false
lacks c [] other good = refl
lacks c (b ∷ bs) other good =
    let (here, later) = and_parts (is_name_byte b) (list_all is_name_byte bs) good in
    let none : (b == c) ≡ false = grind (arith, nat_tests) in
    rw none (lacks c bs other later)

not_escaped : (name : List ℕ) → list_all is_name_byte name ≡ true → escaped false 0 name ≡ name
unfolding escaped needs_escape quotes_after
not_escaped [] good = refl
not_escaped (b ∷ bs) good =
    let (here, later) = and_parts (is_name_byte b) (list_all is_name_byte bs) good in
    let none : needs_escape false 0 b ≡ false = grind (arith, nat_tests) in
    let other : (b == 34) ≡ false = grind (arith, nat_tests) in
    rw (none, other) (ap (λ rest. b ∷ rest) (not_escaped bs later))

-- a name stands between quotes
pub string_text-name : (name : List ℕ) → list_all is_name_byte name ≡ true → string_text name ≡ 34 ∷ name ++ 34 ∷ []
unfolding string_text encoding_of
string_text-name name good =
    rw (clean name good, lacks 92 name refl good, lacks 34 name refl good, lacks 10 name refl good, not_escaped name good)

-- ---- numbers and pairs

pub fits : (n : ℕ) → IsTomlNumber n → FitsSigned w64 (pos n)
fits n small = omega arith

pub number_value : (n : ℕ) → IsTomlNumber n → IsValueText false (number_data n) (decimal n)
number_value n small = (refl, fits n small)

pub pair_value : (pair : ℕ × ℕ) → IsTomlPair pair → IsValueText false (pair_data pair) (pair_text pair)
unfolding pair_text
pair_value pair small = (
  decimal pair.0 ++ (codes ", " ++ (decimal pair.1 ++ codes "]")),
  simp append_assoc,
  (
    decimal pair.0,
    codes ", " ++ (decimal pair.1 ++ codes "]"),
    refl,
    number_value pair.0 small.first,
    (decimal pair.1, codes "]", refl, number_value pair.1 small.second, refl),
  ),
)

later_pairs : (pairs : Table) → All IsTomlPair pairs → IsItemsText false false false (pairs_data pairs) (flat_map next_pair_text pairs ++ codes "]")
later_pairs [] small = refl
later_pairs (pair ∷ pairs) small = (
  pair_text pair,
  flat_map next_pair_text pairs ++ codes "]",
  simp append_assoc,
  pair_value pair (All-head IsTomlPair pair pairs small),
  later_pairs pairs (All-tail IsTomlPair pair pairs small),
)

pub all_pairs : (pairs : Table) → All IsTomlPair pairs → IsItemsText false false true (pairs_data pairs) (pairs_text pairs ++ codes "]")
all_pairs [] small = refl
all_pairs (pair ∷ pairs) small = (
  pair_text pair,
  flat_map next_pair_text pairs ++ codes "]",
  simp append_assoc,
  pair_value pair (All-head IsTomlPair pair pairs small),
  later_pairs pairs (All-tail IsTomlPair pair pairs small),
)

-- ---- tables

-- the arrays of the text stand on one line
pub on_one_line : (items : Items) → breaks_lines false items ≡ false
on_one_line no_items = refl
on_one_line (item d no_items) = refl
on_one_line (item d (item e items)) = refl

table_value : (times : Table) → All IsTomlPair times → IsValueText false (array (pairs_data times)) (table_text times)
unfolding table_text
table_value times small = (pairs_text times ++ codes "]", simp append_assoc, rw (on_one_line (pairs_data times)) (all_pairs times small))

abbrev AreTomlPairs : Table → Type 0
AreTomlPairs times = All IsTomlPair times

later_tables : (tables : List Table) → All AreTomlPairs tables → IsItemsText false false false (tables_data tables) (flat_map next_table_text tables ++ codes "]")
later_tables [] small = refl
later_tables (times ∷ tables) small = (
  table_text times,
  flat_map next_table_text tables ++ codes "]",
  simp append_assoc,
  table_value times (All-head AreTomlPairs times tables small),
  later_tables tables (All-tail AreTomlPairs times tables small),
)

pub all_tables : (first : Table) (rest : List Table) → All AreTomlPairs (first ∷ rest) → IsItemsText false false true (tables_data (first ∷ rest)) (table_text first ++ (flat_map next_table_text rest ++ codes "]"))
all_tables first rest small = (
  table_text first,
  flat_map next_table_text rest ++ codes "]",
  refl,
  table_value first (All-head AreTomlPairs first rest small),
  later_tables rest (All-tail AreTomlPairs first rest small),
)
