-- How a task of a document that passes its conditions states its tables: under `times`, or under `cycle`.
use Rattle.std.proofs.Common.{◌≡◌, ℕ, Bool, true, false, nat_eq, is_some, Option, Some, None, List, codes, Ordering, Less, Equal, Greater, nat_cmp, refl, ap, ◌∙◌}
use Rattle.std.specs.List.{list_all}
use Rattle.std.specs.Ordering.{match_ordering}
use Rattle.std.specs.Cmp.Lexicographic.{slice_cmp}
use Rattle.std.proofs.lemmas.Bool.{and_parts, not-false, true≢false, false≢true}
use Rattle.std.proofs.lemmas.Map.Lookups.{exact_bytes}
use Rattle.toml.specs.Data.{Data, array, Items, Members, no_members, member, get_member}
use Rattle.prta_sheet.specs.declared.fault.Place.TheVariants as place
use Rattle.prta_sheet.specs.declared.fault.SheetFault.TheVariants.{UnknownKey}
use Rattle.prta_sheet.specs.declared.conditions.Condition.TheVariants.{Listed, Range}
use Rattle.prta_sheet.specs.Format.{Row, is_times, is_cycle, states_cycle, task_rows, tables_row}
use Rattle.prta_sheet.specs.Document.{keys_of}
use Rattle.prta_sheet.specs.DocumentConditions.{Spot, fails, fault_in, is_listed}
use Rattle.prta_sheet.proofs.FirstOf.{when_none}
use Rattle.prta_sheet.proofs.AllPass.{rows_in_range}

-- what holds of all keys holds of one that has a value
member_passes : (p : List ℕ → Bool) (key k : List ℕ) (o : Ordering) (d : Data) (found : Option Data) → slice_cmp nat_cmp key k ≡ o → p k ≡ true → (is_some found ≡ true → p key ≡ true)
    → is_some (match_ordering o found (Some d) found) ≡ true → p key ≡ true
member_passes p key k Less d found is here later there = later there
member_passes p key k Equal d found is here later there = ap p (exact_bytes key k is) ∙ here
member_passes p key k Greater d found is here later there = later there

key_passes : (p : List ℕ → Bool) (key : List ℕ) (table : Members) → list_all p (keys_of table) ≡ true → is_some (get_member key table) ≡ true → p key ≡ true
key_passes p key no_members all there = absurd (false≢true there)
key_passes p key (member k d rest) all there =
    let (here, later) = and_parts (p k) (list_all p (keys_of rest)) all in
    member_passes p key k (slice_cmp nat_cmp key k) d (get_member key rest) refl here (key_passes p key rest later) there

-- the rows of a task in a format
abbrev pub rows_in : ℕ → Members → List Row
rows_in format table = task_rows (states_cycle format table)

abbrev pub task_spot : ℕ → ℕ → Members → Spot
task_spot format i table = record { at = place.Task i; rows = rows_in format table; table = table }

-- the tables that a task states are those under `times`, or those under `cycle`
pub data StatesTables (table : Members) : Type 0 where
  under_times : get_member (codes "cycle") table ≡ None → fails is_times (get_member (codes "times") table) ≡ false → StatesTables table
  under_cycle : (items : Items) → get_member (codes "cycle") table ≡ Some (array items) → is_cycle (array items) ≡ true → StatesTables table

module _ (table : Members) where
  -- a cycle that is there and in its range
  by_cycle : (value : Option Data) → get_member (codes "cycle") table ≡ value → is_some value ≡ true → fails is_cycle value ≡ false → StatesTables table
  by_cycle None e there h = absurd (false≢true there)
  by_cycle (Some (array items)) e there h = under_cycle items e (not-false _ h)
  by_cycle (Some _) e there h = absurd (true≢false h)

  -- no cycle where the key isn't listed
  pub no_cycle : (value : Option Data) → get_member (codes "cycle") table ≡ value → list_all (is_listed (task_rows false)) (keys_of table) ≡ true → value ≡ None
  no_cycle None e all = refl
  no_cycle (Some d) e all = absurd (false≢true (key_passes (is_listed (task_rows false)) (codes "cycle") table all (rw e refl)))

  by_row : (format : ℕ) (b : Bool) → states_cycle format table ≡ b → list_all (is_listed (task_rows b)) (keys_of table) ≡ true → fails (tables_row b).range (get_member (tables_row b).text table) ≡ false → StatesTables table
  by_row format true is all tables =
      let (second, there) = and_parts (nat_eq format 2) (is_some (get_member (codes "cycle") table)) is in
      by_cycle (get_member (codes "cycle") table) refl there tables
  by_row format false is all tables = under_times (no_cycle (get_member (codes "cycle") table) refl all) tables

  pub states_tables : (format i : ℕ) → fault_in Listed (task_spot format i table) ≡ None → fault_in Range (task_spot format i table) ≡ None → StatesTables table
  states_tables format i listed in_range =
      let (name, (offset, (period, (deadline, (tables, rest))))) = rows_in_range (task_spot format i table) in_range in
      by_row format (states_cycle format table) refl (not-false _ (when_none _ (UnknownKey (place.Task i)) listed)) tables
