-- A sheet's document: the document that bytes spell, and what a table of it has at a key.
use Rattle.std.specs.Prelude.{ℕ, pos, if◌then◌else◌, Option, Some, None, option_and_then, List, [], ◌∷◌}
use Rattle.std.specs.Str.{is_utf8}
use Rattle.toml.specs.Data.{Data, integer, Items, Members, no_members, member, get_member, as_array, as_table}
use Rattle.toml.specs.Parse.{parse_document}

infixl 10 ◌>>=◌
abbrev pub ◌>>=◌ : {A B : Type 0} → Option A → (A → Option B) → Option B
o >>= f = option_and_then f o

-- the document that bytes spell; none where they are no UTF-8, or no TOML as `toml` reads it
abbrev pub document : List ℕ → Option Members
document bytes = if is_utf8 bytes then parse_document bytes else None

-- the keys of a table
abbrev pub keys_of : Members → List (List ℕ)
keys_of no_members = []
keys_of (member key value rest) = key ∷ keys_of rest

-- a whole number; another one where there is none
abbrev pub number_or : ℕ → Option Data → ℕ
number_or default (Some (integer (pos n))) = n
number_or default _ = default

-- the table and the array at a key
abbrev pub table_at : List ℕ → Members → Option Members
table_at key table = get_member key table >>= as_table

abbrev pub array_at : List ℕ → Members → Option Items
array_at key table = get_member key table >>= as_array
