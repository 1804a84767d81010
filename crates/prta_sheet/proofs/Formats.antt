-- A document of format 1 that is accepted is accepted in format 2, and states the same sheet.
use Rattle.std.proofs.Common.{◌≡◌, ℕ, ◌+◌, Bool, true, false, if◌then◌else◌, is_some, Option, Some, None, List, [], ◌∷◌, ◌++◌, codes, bytes_eq, Ordering, Less, Equal, Greater, nat_cmp, refl, ap, ap₂, sym, ◌∙◌, arith}
use Rattle.std.specs.Ordering.{match_ordering}
use Rattle.std.specs.Cmp.Lexicographic.{slice_cmp}
use Rattle.std.proofs.lemmas.Bool.{not-false, false≢true}
use Rattle.std.proofs.lemmas.Map.Lookups.{exact_bytes}
use Rattle.toml.specs.Data.{Data, Items, no_items, item, Members, no_members, member, get_member, as_table}
use Rattle.prta_sheet.specs.declared.fault.Place.TheVariants as place
use Rattle.prta_sheet.specs.declared.fault.SheetFault.TheVariants.{UnknownKey}
use Rattle.prta_sheet.specs.declared.conditions.Condition.{Condition}
use Rattle.prta_sheet.specs.declared.conditions.Condition.TheVariants.{Listed, Needed, Kind, Range}
use Rattle.prta_sheet.specs.Format.{top_rows, support_rows}
use Rattle.prta_sheet.specs.Document.{number_or, keys_of, table_at, array_at}
use Rattle.prta_sheet.specs.DocumentConditions.{Spot, first_of, format_of, spot, task_spots, all_task_spots, format_fault, fault_in, first_fault, document_fault}
use Rattle.prta_sheet.specs.SheetConditions.{later_fault}
use Rattle.prta_sheet.specs.Stated.{stated}
use Rattle.prta_sheet.specs.Canonical.{number_data}
use Rattle.prta_sheet.specs.Formats.{in_format, SecondFormatIsRead}
use Rattle.prta_sheet.proofs.FirstOf.{first_none, next_none, both_none, when_none}
use Rattle.prta_sheet.proofs.AllPass.{first_of-each, first_of-left, first_of-right}
use Rattle.prta_sheet.proofs.StatedTables.{rows_in, task_spot, no_cycle}

-- ---- the values of the document with another number

same_keys : (n : ℕ) (doc : Members) → keys_of (in_format n doc) ≡ keys_of doc
same_keys n no_members = refl
same_keys n (member key d rest) = ap (λ keys. key ∷ keys) (same_keys n rest)

other_found : (o : Ordering) (b : Bool) (d e : Data) (found new : Option Data) → new ≡ found → (o ≡ Equal → b ≡ false)
    → match_ordering o new (Some (if b then e else d)) new ≡ match_ordering o found (Some d) found
other_found Less b d e found new same other = same
other_found Equal b d e found new same other = rw (other refl) refl
other_found Greater b d e found new same other = same

-- each other key keeps its value
same_value : (n : ℕ) (key : List ℕ) → bytes_eq key (codes "format") ≡ false → (doc : Members) → get_member key (in_format n doc) ≡ get_member key doc
same_value n key other no_members = refl
same_value n key other (member k d rest) =
    other_found (slice_cmp nat_cmp key k) (bytes_eq k (codes "format")) d (number_data n) _ _ (same_value n key other rest)
    (λ is. ap (λ l. bytes_eq l (codes "format")) (sym (exact_bytes key k is)) ∙ other)

format_found : (o : Ordering) (b : Bool) (d e : Data) (found new : Option Data) → (is_some found ≡ true → new ≡ Some e) → (o ≡ Equal → b ≡ true)
    → is_some (match_ordering o found (Some d) found) ≡ true → match_ordering o new (Some (if b then e else d)) new ≡ Some e
format_found Less b d e found new later same there = later there
format_found Equal b d e found new later same there = rw (same refl) refl
format_found Greater b d e found new later same there = later there

new_value : (n : ℕ) (doc : Members) → is_some (get_member (codes "format") doc) ≡ true → get_member (codes "format") (in_format n doc) ≡ Some (number_data n)
new_value n no_members there = absurd (false≢true there)
new_value n (member k d rest) there =
    format_found (slice_cmp nat_cmp (codes "format") k) (bytes_eq k (codes "format")) d (number_data n) (get_member (codes "format") rest) _ (new_value n rest)
    (λ is. ap (λ l. bytes_eq l (codes "format")) (sym (exact_bytes (codes "format") k is))) there

has_format : (value : Option Data) → number_or 0 value ≡ 1 → is_some value ≡ true
has_format None one = absurd (omega (arith, one))
has_format (Some d) one = refl

same_sheet : (n : ℕ) (doc : Members) → stated (in_format n doc) ≡ stated doc
same_sheet n doc =
    rw (
      same_value n (codes "cap") refl doc,
      same_value n (codes "hyperperiods") refl doc,
      same_value n (codes "turns") refl doc,
      same_value n (codes "support") refl doc,
      same_value n (codes "task") refl doc,
    ) refl

-- ---- the tasks

-- no task of format 1 states a cycle, so its rows are those of format 2
spot_same : (i : ℕ) (element : Option Members) → first_of (fault_in Listed) (spot (place.Task i) (rows_in 1) element) ≡ None
    → spot (place.Task i) (rows_in 2) element ≡ spot (place.Task i) (rows_in 1) element
spot_same i None listed = refl
spot_same i (Some t) listed =
    let here = (first_of-each (fault_in Listed) (task_spot 1 i t ∷ []) listed).0 in
    rw (no_cycle t (get_member (codes "cycle") t) refl (not-false _ (when_none _ (UnknownKey (place.Task i)) here))) refl

spots_same : (i : ℕ) (items : Items) → first_of (fault_in Listed) (task_spots 1 i items) ≡ None → task_spots 2 i items ≡ task_spots 1 i items
spots_same i no_items listed = refl
spots_same i (item first rest) listed =
    let here = spot (place.Task i) (rows_in 1) (as_table first) in
    let later = task_spots 1 (i + 1) rest in
    ap₂ (λ (xs ys : List Spot). xs ++ ys) (spot_same i (as_table first) (first_of-left (fault_in Listed) here later listed)) (spots_same (i + 1) rest (first_of-right (fault_in Listed) here later listed))

all_spots_same : (items : Option Items) → first_of (fault_in Listed) (all_task_spots 1 items) ≡ None → all_task_spots 2 items ≡ all_task_spots 1 items
all_spots_same None listed = refl
all_spots_same (Some items) listed = spots_same 0 items listed

-- ---- the conditions

abbrev top_spot : Members → Spot
top_spot doc = record { at = place.Top; rows = top_rows; table = doc }

module _ (doc : Members) (one : format_of doc ≡ 1) where
  there : is_some (get_member (codes "format") doc) ≡ true
  there = has_format (get_member (codes "format") doc) one

  abbrev second : Members
  second = in_format 2 doc

  two : format_of second ≡ 2
  two = rw (new_value 2 doc there) refl

  -- past the row of `format` the rows of the top find the same values
  top_passes : (condition : Condition) → fault_in condition (top_spot doc) ≡ None → fault_in condition (top_spot second) ≡ None
  top_passes Listed h = rw (same_keys 2 doc) h
  top_passes Needed h = rw (new_value 2 doc there, same_value 2 (codes "task") refl doc) (next_none _ _ h)
  top_passes Kind h =
      rw (
        new_value 2 doc there,
        same_value 2 (codes "cap") refl doc,
        same_value 2 (codes "hyperperiods") refl doc,
        same_value 2 (codes "turns") refl doc,
        same_value 2 (codes "support") refl doc,
        same_value 2 (codes "task") refl doc,
      ) (next_none _ _ h)
  top_passes Range h =
      rw (
        new_value 2 doc there,
        same_value 2 (codes "cap") refl doc,
        same_value 2 (codes "hyperperiods") refl doc,
        same_value 2 (codes "turns") refl doc,
        same_value 2 (codes "support") refl doc,
        same_value 2 (codes "task") refl doc,
      ) (next_none _ _ h)

  abbrev support : List Spot
  support = spot place.Support (λ table. support_rows) (table_at (codes "support") doc)

  abbrev tasks : List Spot
  tasks = all_task_spots 1 (array_at (codes "task") doc)

  -- the conditions past the top, in format 1
  past_top : (condition : Condition) → first_fault condition doc ≡ None → first_of (fault_in condition) (support ++ tasks) ≡ None
  past_top condition h = let rest = next_none (fault_in condition (top_spot doc)) _ h in rw one at rest

  passes : (condition : Condition) → first_fault Listed doc ≡ None → first_fault condition doc ≡ None → first_fault condition second ≡ None
  passes condition listed h =
      let same = all_spots_same (array_at (codes "task") doc) (first_of-right (fault_in Listed) support tasks (past_top Listed listed)) in
      both_none _ _ (top_passes condition (first_none (fault_in condition (top_spot doc)) _ h))
      (rw (two, same_value 2 (codes "support") refl doc, same_value 2 (codes "task") refl doc, same) (past_top condition h))

  document_passes : document_fault doc ≡ None → document_fault second ≡ None
  document_passes none =
      let after_format = next_none (format_fault doc) _ none in
      let listed = first_none (first_fault Listed doc) _ after_format in
      let after_listed = next_none (first_fault Listed doc) _ after_format in
      let after_needed = next_none (first_fault Needed doc) _ after_listed in
      let known : format_fault second ≡ None = rw two refl in
      both_none _ _ known
      (both_none _ _ (passes Listed listed listed)
      (both_none _ _ (passes Needed listed (first_none (first_fault Needed doc) _ after_listed))
      (both_none _ _ (passes Kind listed (first_none (first_fault Kind doc) _ after_needed))
      (passes Range listed (next_none (first_fault Kind doc) (first_fault Range doc) after_needed)))))

pub second_format_is_read : SecondFormatIsRead
second_format_is_read doc one none =
    let same = same_sheet 2 doc in
    let later = next_none (document_fault doc) (later_fault (stated doc)) none in
    (both_none _ _ (document_passes doc one (first_none (document_fault doc) _ none)) (ap later_fault same ∙ later), same)
