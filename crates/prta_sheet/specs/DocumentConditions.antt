-- The conditions on a sheet's document: the key `format`, and in each of its tables the keys, their kinds and their ranges.
use Rattle.std.specs.Prelude.{ℕ, Bool, false, not, ◌+◌, ◌&&◌, ◌||◌, nat_eq, is_none, Option, Some, None, List, [], ◌∷◌, ◌++◌, codes, bytes_eq}
use Rattle.std.specs.List.{list_all, list_any}
use Rattle.std.specs.Option.{option_map_or}
use Rattle.toml.specs.Data.{Data, Items, no_items, item, Members, get_member, as_table}
use Rattle.prta_mass.specs.Table.{or_else, when}
use Rattle.prta_sheet.specs.declared.fault.Place.{Place}
use Rattle.prta_sheet.specs.declared.fault.Place.TheVariants.{Top, Support, Task}
use Rattle.prta_sheet.specs.declared.fault.SheetFault.{SheetFault}
use Rattle.prta_sheet.specs.declared.fault.SheetFault.TheVariants.{Format, UnknownKey, MissingKey, WrongKind, OutOfRange}
use Rattle.prta_sheet.specs.declared.conditions.Condition.{Condition}
use Rattle.prta_sheet.specs.declared.conditions.Condition.TheVariants.{Listed, Needed, Kind, Range}
use Rattle.prta_sheet.specs.Format.{Row, top_rows, support_rows, states_cycle, task_rows}
use Rattle.prta_sheet.specs.Document.{keys_of, number_or, table_at, array_at}

-- the first answer along a list
abbrev pub first_of : {X Y : Type 0} → (X → Option Y) → List X → Option Y
first_of f [] = None
first_of f (x ∷ xs) = or_else (f x) (first_of f xs)

-- the number of the format; 0 where there is none
abbrev pub format_of : Members → ℕ
format_of doc = number_or 0 (get_member (codes "format") doc)

-- ---- the tables of a document

-- a table of the document, with the rows that list its keys
pub record Spot : Type 0 where
  pub at : Place
  pub rows : List Row
  pub table : Members

abbrev pub spot : Place → (Members → List Row) → Option Members → List Spot
spot at rows None = []
spot at rows (Some table) = record { at = at; rows = rows table; table = table } ∷ []

-- the elements of `task` that are tables; the elements are counted from i
abbrev pub task_spots : ℕ → ℕ → Items → List Spot
task_spots format i no_items = []
task_spots format i (item first rest) = spot (Task i) (λ table. task_rows (states_cycle format table)) (as_table first) ++ task_spots format (i + 1) rest

abbrev pub all_task_spots : ℕ → Option Items → List Spot
all_task_spots format None = []
all_task_spots format (Some items) = task_spots format 0 items

-- the top, `support` where it is a table, and the tables of `task` in order
abbrev pub spots : Members → List Spot
spots doc =
    spot Top (λ table. top_rows) (Some doc)
    ++ spot Support (λ table. support_rows) (table_at (codes "support") doc)
    ++ all_task_spots (format_of doc) (array_at (codes "task") doc)

-- ---- the conditions

-- the value of `format` is the integer 1 or 2
abbrev pub is_format : ℕ → Bool
is_format n = nat_eq n 1 || nat_eq n 2

abbrev pub format_fault : Members → Option SheetFault
format_fault doc = when (not (is_format (format_of doc))) Format

-- the key is one of the rows'
abbrev pub is_listed : List Row → List ℕ → Bool
is_listed rows key = list_any (λ row. bytes_eq key row.text) rows

-- there is a value, and it fails a test
abbrev pub fails : (Data → Bool) → Option Data → Bool
fails test value = option_map_or (λ d. not (test d)) value false

-- what a condition refuses at a row's key: Needed the lack of a needed value, Kind a value of another kind, Range a number outside its range;
-- Listed is a condition on a whole table
abbrev pub row_fault : Condition → Place → Row → Option Data → Option SheetFault
row_fault Listed at row value = None
row_fault Needed at row value = when (row.needed && is_none value) (MissingKey at row.key)
row_fault Kind at row value = when (fails row.kind value) (WrongKind at row.key)
row_fault Range at row value = when (fails row.range value) (OutOfRange at row.key)

-- the first row of a table that a condition refuses
abbrev pub rows_fault : Condition → Spot → Option SheetFault
rows_fault condition s = first_of (λ row. row_fault condition s.at row (get_member row.text s.table)) s.rows

-- what a condition refuses in a table: Listed a key that no row has, each other one the first row that it refuses
abbrev pub fault_in : Condition → Spot → Option SheetFault
fault_in Listed s = when (not (list_all (is_listed s.rows) (keys_of s.table))) (UnknownKey s.at)
fault_in Needed s = rows_fault Needed s
fault_in Kind s = rows_fault Kind s
fault_in Range s = rows_fault Range s

-- the first table that a condition refuses
abbrev pub first_fault : Condition → Members → Option SheetFault
first_fault condition doc = first_of (fault_in condition) (spots doc)

-- the first condition that fails, each over all tables before the next
abbrev pub document_fault : Members → Option SheetFault
document_fault doc =
    or_else (format_fault doc)
    (or_else (first_fault Listed doc)
    (or_else (first_fault Needed doc)
    (or_else (first_fault Kind doc)
    (first_fault Range doc))))
