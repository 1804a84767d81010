-- The steps of reading a document.
use Rattle.std.proofs.Common.{◌≡◌, ℕ, Bool, true, false, ◌&&◌, List, [], ◌∷◌, None, map, refl, ap, String, Global, string_bytes, IsUtf8, BTreeMap}
use Rattle.std.specs.List.{list_all}
use Rattle.std.specs.Str.{is_utf8}
use Rattle.std.specs.BTreeMap.{keys}
use Rattle.std.proofs.lemmas.Str.{is_utf8-from_IsUtf8, IsUtf8-from_is_utf8}
use Rattle.toml.specs.View.{table_view, members_view}
use Rattle.toml.specs.Parse.{parse_document}
use Rattle.toml.specs.declared.value.Value.{Value}
use Rattle.prta_sheet.specs.Document.{document, keys_of}

-- bytes that are UTF-8 spell what `toml` reads
pub document_of_text : (bytes : List ℕ) → IsUtf8 bytes → document bytes ≡ parse_document bytes
document_of_text bytes text = rw (is_utf8-from_IsUtf8 bytes text)

-- bytes that `toml` refuses spell no document
pub document_refused : (bytes : List ℕ) → (IsUtf8 bytes → parse_document bytes ≡ None) → document bytes ≡ None
document_refused bytes refused = by_test (is_utf8 bytes) refl
  where
    by_test : (b : Bool) → is_utf8 bytes ≡ b → document bytes ≡ None
    by_test true is = rw is (refused (IsUtf8-from_is_utf8 bytes is))
    by_test false is = rw is

-- a test of the keys of the map is the test of the keys of the table
pub list_all_keys : (listed : List ℕ → Bool) (table : BTreeMap (String Global) Value) → list_all (λ key. listed (string_bytes key)) (keys table) ≡ list_all listed (keys_of (table_view table))
list_all_keys listed table = along table.entries
  where
    along : (entries : List (String Global × Value)) → list_all (λ key. listed (string_bytes key)) (map (λ entry. entry.0) entries) ≡ list_all listed (keys_of (members_view entries))
    along [] = refl
    along (entry ∷ entries) = ap (λ rest. listed (string_bytes entry.0) && rest) (along entries)
