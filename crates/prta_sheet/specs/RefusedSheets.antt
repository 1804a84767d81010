-- Worked values of the conditions: what a sheet's document is refused by.
use Rattle.std.specs.Prelude.{◌≡◌, ℕ, zero, suc, true, Some, None, [], ◌∷◌, codes}
use Rattle.toml.specs.Data.{Data, string, boolean, array, table, Items, no_items, item, Members, no_members, member}
use Rattle.prta_mass.specs.Table.{Table}
use Rattle.prta_mass.specs.declared.table.TableFault.TheVariants.{NotIncreasing}
use Rattle.prta_sheet.specs.declared.fault.Key.TheVariants as key
use Rattle.prta_sheet.specs.declared.fault.Place.TheVariants as place
use Rattle.prta_sheet.specs.declared.fault.SheetFault.TheVariants as fault
use Rattle.prta_sheet.specs.Canonical.{number_data, pairs_data}
use Rattle.prta_sheet.specs.Refusal.{refusal_of, document_refusal}

-- the keys of a task, by rising key; a name of one letter
abbrev pub task_keys : ℕ → ℕ → Data → Members → Members
task_keys letter period times rest =
    member (codes "deadline") (number_data 5)
    (member (codes "name") (string (letter ∷ []))
    (member (codes "period") (number_data period)
    (member (codes "times") times
    rest)))

-- a document: what stands before `format`, its number, and the elements of `task`
abbrev pub document_in : (Members → Members) → ℕ → Items → Members
document_in before format tasks = before (member (codes "format") (number_data format) (member (codes "task") (array tasks) no_members))

abbrev pub document_with : (Members → Members) → Items → Members
document_with before tasks = document_in before 1 tasks

abbrev pub nothing : Members → Members
nothing rest = rest

abbrev pub with_cap : ℕ → Members → Members
with_cap cap rest = member (codes "cap") (number_data cap) rest

abbrev pub times : Data
times = array (pairs_data ((3, 3) ∷ (7, 1) ∷ []))

abbrev pub one : Members → Items
one task = item (table task) no_items

abbrev pub plain : Members
plain = task_keys 65 10 times no_members

-- with these times
abbrev pub with_times : Table → Items
with_times pairs = one (task_keys 65 10 (array (pairs_data pairs)) no_members)

-- a document of format 2 whose task has a cycle, with what stands after its other keys
abbrev pub second : Items → Members → Members
second tables rest = document_in nothing 2 (one (member (codes "cycle") (array tables) (member (codes "deadline") (number_data 5) (member (codes "name") (string (65 ∷ [])) (member (codes "period") (number_data 10) rest)))))

-- as many tables
abbrev pub tables_of : ℕ → Items
tables_of zero = no_items
tables_of (suc n) = item times (tables_of n)

pub record RefusedSheets : Type 0 where
  pub no_toml : refusal_of None ≡ Some fault.NotToml
  pub empty : document_refusal no_members ≡ Some fault.Format
  pub row : document_refusal (document_with nothing (one plain)) ≡ None
  pub unknown : document_refusal (document_with nothing (one (member (codes "prio") (number_data 1) plain))) ≡ Some (fault.UnknownKey (place.Task 0))
  pub missing : document_refusal (document_with nothing (one (member (codes "name") (string (65 ∷ [])) (member (codes "period") (number_data 10) (member (codes "times") times no_members))))) ≡ Some (fault.MissingKey (place.Task 0) key.Deadline)
  pub kind : document_refusal (document_with nothing (one (task_keys 65 10 (array (item (array (item (number_data 3) (item (boolean true) no_items))) no_items)) no_members))) ≡ Some (fault.WrongKind (place.Task 0) key.Times)
  pub range : document_refusal (document_with nothing (one (task_keys 65 0 times no_members))) ≡ Some (fault.OutOfRange (place.Task 0) key.Period)
  pub count : document_refusal (document_with nothing no_items) ≡ Some (fault.TaskCount 0)
  pub name : document_refusal (document_with nothing (item (table plain) (one plain))) ≡ Some (fault.RepeatedName 1)
  pub offset : document_refusal (document_with nothing (one (member (codes "offset") (number_data 10) plain))) ≡ Some (fault.OffsetNotBelowPeriod 0)
  pub falling : document_refusal (document_with nothing (with_times ((7, 3) ∷ (3, 1) ∷ []))) ≡ Some (fault.BadTable 0 (NotIncreasing 1))
  pub total : document_refusal (document_with nothing (with_times ((3, 281474976710656) ∷ (7, 1) ∷ []))) ≡ Some (fault.TotalTooLarge 0)
  pub greatest_total : document_refusal (document_with nothing (with_times ((3, 281474976710656) ∷ []))) ≡ None
  pub low_cap : document_refusal (document_with (with_cap 6) (one plain)) ≡ Some (fault.DeadlineNotBelowCap 0)
  pub least_cap : document_refusal (document_with (with_cap 7) (one plain)) ≡ None
  pub third_format : document_refusal (document_in nothing 3 (one plain)) ≡ Some fault.Format
  pub second_format : document_refusal (document_in nothing 2 (one plain)) ≡ None
  pub cycle : document_refusal (second (tables_of 2) no_members) ≡ None
  pub greatest_cycle : document_refusal (second (tables_of 16) no_members) ≡ None
  pub early_cycle : document_refusal (document_with nothing (one (member (codes "cycle") (array (tables_of 2)) plain))) ≡ Some (fault.UnknownKey (place.Task 0))
  pub both : document_refusal (second (tables_of 2) (member (codes "times") times no_members)) ≡ Some (fault.UnknownKey (place.Task 0))
  pub neither : document_refusal (document_in nothing 2 (one (member (codes "deadline") (number_data 5) (member (codes "name") (string (65 ∷ [])) (member (codes "period") (number_data 10) no_members))))) ≡ Some (fault.MissingKey (place.Task 0) key.Times)
  pub no_array : document_refusal (second (item (number_data 3) no_items) no_members) ≡ Some (fault.WrongKind (place.Task 0) key.Cycle)
  pub no_tables : document_refusal (second no_items no_members) ≡ Some (fault.OutOfRange (place.Task 0) key.Cycle)
  pub many_tables : document_refusal (second (tables_of 17) no_members) ≡ Some (fault.OutOfRange (place.Task 0) key.Cycle)
  pub second_falls : document_refusal (second (item times (item (array (pairs_data ((7, 3) ∷ (3, 1) ∷ []))) no_items)) no_members) ≡ Some (fault.BadTable 0 (NotIncreasing 1))
  pub second_total : document_refusal (second (item times (item (array (pairs_data ((3, 281474976710656) ∷ (7, 1) ∷ []))) no_items)) no_members) ≡ Some (fault.TotalTooLarge 0)
