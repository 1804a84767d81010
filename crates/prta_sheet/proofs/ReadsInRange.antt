-- What is read of a document that passes its conditions is in its ranges.
use Rattle.std.proofs.Common.{◌≡◌, ℕ, ℤ, pos, negsuc, ◌^◌, Bool, true, false, ◌&&◌, nat_le, nat_lt, Option, Some, None, not, ◌+◌, unwrap_or, List, [], ◌∷◌, codes, length, refl, arith, All}
use Rattle.std.specs.List.{list_any}
use Rattle.std.proofs.lemmas.Bool.{and_parts, or_from, cond_both}
use Rattle.std.proofs.lemmas.Bool.Decides.{nat_tests}
use Rattle.std.proofs.lemmas.List.Elements.{All-nil, All-cons}
use Rattle.toml.specs.Data.{Items, no_items, item, Members, get_member, as_table, as_array, as_integer}
use Rattle.prta_sheet.specs.declared.limits.TheConstants.{TIME_LIMIT}
use Rattle.prta_sheet.specs.declared.fault.Key.{Key}
use Rattle.prta_sheet.specs.declared.fault.Place.{Place}
use Rattle.prta_sheet.specs.declared.fault.Place.TheVariants as place
use Rattle.prta_sheet.specs.declared.conditions.Condition.TheVariants.{Listed, Range}
use Rattle.prta_sheet.specs.Sheet.{Task}
use Rattle.prta_sheet.specs.Format.{is_times, each_item, item_count}
use Rattle.prta_sheet.specs.Document.{◌>>=◌, array_at}
use Rattle.prta_sheet.specs.DocumentConditions.{format_of, first_of, spot, task_spots, all_task_spots, fault_in, document_fault}
use Rattle.prta_sheet.specs.SheetConditions.{in_range, support_ranges, settings_ranges, has_long_time, cycle_range, allow_range, task_ranges, part_ranges}
use Rattle.prta_sheet.specs.Reading.{within, natural, integers_in, share_in, point_in, points_of_items, points_of, read_cycle_items, read_cycle, read_task, with_read_task, read_task_items, read_tasks, read_support, read_settings, read}
use Rattle.prta_sheet.proofs.FirstOf.{both_none, when_false, none_below}
use Rattle.prta_sheet.proofs.AllPass.{first_of-each, first_of-left, first_of-right}
use Rattle.prta_sheet.proofs.StatedTables.{rows_in, task_spot, StatesTables, under_times, under_cycle, states_tables}
use Rattle.prta_sheet.proofs.ReadsStated.{of_tasks, passed}

abbrev is_between : ℕ → ℕ → ℕ → Bool
is_between low high n = nat_le low n && nat_le n high

-- a number that is read is none, or one from low to high
by_range : (low high : ℕ) (P : Option ℕ → Type 0) → P None → ((n : ℕ) → is_between low high n ≡ true → P (Some n)) → (value : Option ℤ) → P (value >>= within low high)
by_range low high P none some None = none
by_range low high P none some (Some (pos n)) = cond_both (is_between low high n) (Some n) None P (some n) (λ _. none)
by_range low high P none some (Some (negsuc n)) = none

-- a number of the settings or of a task
number_in_range : (at : Place) (key : Key) (low high default : ℕ) → is_between low high default ≡ true → (value : Option ℤ)
    → in_range at key low high (unwrap_or (value >>= within low high) default) ≡ None
number_in_range at key low high default fits value =
    by_range low high (λ o. in_range at key low high (unwrap_or o default) ≡ None) (rw fits refl) (λ n is. rw is refl) value

-- what two integers make, where they are there
by_pair : (make : ℤ × ℤ → Option (ℕ × ℕ)) (P : Option (ℕ × ℕ) → Type 0) → P None → ((a b : ℤ) → P (make (a, b))) → (pair : Option (ℤ × ℤ)) → P (pair >>= make)
by_pair make P none some None = none
by_pair make P none some (Some pair) = some pair.0 pair.1

-- ---- times

-- the time of a point is in range; none counts as 0
abbrev IsEarly : Option (ℕ × ℕ) → Type 0
IsEarly point = nat_lt TIME_LIMIT (unwrap_or {T = ℕ × ℕ} point (0, 0)).0 ≡ false

with_weight : (time : ℕ) → is_between 0 TIME_LIMIT time ≡ true → (weight : ℤ) → IsEarly (natural weight >>= (λ w. Some (time, w)))
with_weight time is (pos w) = let (low, high) = and_parts (nat_le 0 time) (nat_le time TIME_LIMIT) is in grind (arith, nat_tests)
with_weight time is (negsuc w) = refl

point_in_range : (items : Option Items) → IsEarly (items >>= point_in)
point_in_range None = refl
point_in_range (Some items) =
    by_pair _ IsEarly refl
    (λ time weight. by_range 0 TIME_LIMIT (λ o. IsEarly (o >>= (λ c. natural weight >>= (λ w. Some (c, w))))) refl (λ c is. with_weight c is weight) (Some time))
    (integers_in items)

points_in_range : (items : Items) → has_long_time (points_of_items items) ≡ false
points_in_range no_items = refl
points_in_range (item first rest) = rw (point_in_range (as_array first)) (points_in_range rest)

table_in_range : (items : Option Items) → has_long_time (points_of items) ≡ false
table_in_range None = refl
table_in_range (Some items) = points_in_range items

tables_in_range : (items : Items) → list_any has_long_time (read_cycle_items items) ≡ false
tables_in_range no_items = refl
tables_in_range (item first rest) = or_from (has_long_time (points_of (as_array first))) _ (table_in_range (as_array first)) (tables_in_range rest)

as_many_tables : (items : Items) → length (read_cycle_items items) ≡ item_count items
as_many_tables no_items = refl
as_many_tables (item first rest) = omega (arith, as_many_tables rest)

cycle_in_range : (i : ℕ) (table : Members) → StatesTables table → cycle_range i (read_cycle table) ≡ None
cycle_in_range i table (under_times none times) =
    let early = or_from (has_long_time (points_of (array_at (codes "times") table))) false (table_in_range (array_at (codes "times") table)) refl in
    rw none (both_none _ _ refl (when_false _ _ early))
cycle_in_range i table (under_cycle items is cycle) =
    let (few, each) = and_parts (nat_le 1 (item_count items) && nat_le (item_count items) 16) (each_item is_times items) cycle in
    let long = when_false (not (nat_le 1 (length (read_cycle_items items)) && nat_le (length (read_cycle_items items)) 16)) _ (rw (as_many_tables items, few) refl) in
    rw is (both_none _ _ long (when_false _ _ (tables_in_range items)))

-- ---- the allowance

-- a share is in range; none counts as 0 of 1
abbrev IsShareAt : ℕ → Option (ℕ × ℕ) → Type 0
IsShareAt i share = allow_range i (unwrap_or share (0, 1)) ≡ None

with_part : (i whole : ℕ) → is_between 1 (10 ^ 18) whole ≡ true → (part : ℤ) → IsShareAt i (within 0 whole part >>= (λ p. Some (p, whole)))
with_part i whole is part =
    by_range 0 whole (λ o. IsShareAt i (o >>= (λ p. Some (p, whole))))
    refl (λ p small. rw (is, (and_parts (nat_le 0 p) (nat_le p whole) small).1) refl) (Some part)

share_in_range : (i : ℕ) (items : Option Items) → IsShareAt i (items >>= share_in)
share_in_range i None = refl
share_in_range i (Some items) =
    by_pair _ (IsShareAt i) refl
    (λ part whole. by_range 1 (10 ^ 18) (λ o. IsShareAt i (o >>= (λ q. within 0 q part >>= (λ p. Some (p, q))))) refl (λ q is. with_part i q is part) (Some whole))
    (integers_in items)

-- ---- tasks, settings and the sheet

task_in_range : (format n : ℕ) (members : Members) → fault_in Listed (task_spot format n members) ≡ None → fault_in Range (task_spot format n members) ≡ None
    → (i : ℕ) → task_ranges i (read_task members) ≡ None
task_in_range format n members listed h i =
    both_none _ _ (number_in_range _ _ 0 999999 0 refl (get_member (codes "offset") members >>= as_integer))
    (both_none _ _ (number_in_range _ _ 1 1000000 1 refl (get_member (codes "period") members >>= as_integer))
    (both_none _ _ (number_in_range _ _ 1 1000000 1 refl (get_member (codes "deadline") members >>= as_integer))
    (both_none _ _ (cycle_in_range i members (states_tables members format n listed h))
    (share_in_range i (get_member (codes "allow") members >>= as_array)))))

-- the task is in its ranges, at every number
abbrev IsTaskInRange : Task → Type 0
IsTaskInRange task = (i : ℕ) → task_ranges i task ≡ None

one_more : (format n : ℕ) (element : Option Members) (tasks : List Task) → first_of (fault_in Listed) (spot (place.Task n) (rows_in format) element) ≡ None
    → first_of (fault_in Range) (spot (place.Task n) (rows_in format) element) ≡ None → All IsTaskInRange tasks → All IsTaskInRange (with_read_task element tasks)
one_more format n None tasks listed h rest = rest
one_more format n (Some members) tasks listed h rest =
    let known = (first_of-each (fault_in Listed) (task_spot format n members ∷ []) listed).0 in
    let here = (first_of-each (fault_in Range) (task_spot format n members ∷ []) h).0 in
    All-cons IsTaskInRange (read_task members) tasks (task_in_range format n members known here) rest

items_in_range : (format n : ℕ) (items : Items) → first_of (fault_in Listed) (task_spots format n items) ≡ None → first_of (fault_in Range) (task_spots format n items) ≡ None
    → All IsTaskInRange (read_task_items items)
items_in_range format n no_items listed h = All-nil IsTaskInRange
items_in_range format n (item first rest) listed h =
    let here = spot (place.Task n) (rows_in format) (as_table first) in
    let later = task_spots format (n + 1) rest in
    one_more format n (as_table first) (read_task_items rest) (first_of-left (fault_in Listed) here later listed) (first_of-left (fault_in Range) here later h)
    (items_in_range format (n + 1) rest (first_of-right (fault_in Listed) here later listed) (first_of-right (fault_in Range) here later h))

tasks_in_range : (format : ℕ) (items : Option Items) → first_of (fault_in Listed) (all_task_spots format items) ≡ None → first_of (fault_in Range) (all_task_spots format items) ≡ None
    → All IsTaskInRange (read_tasks items)
tasks_in_range format None listed h = All-nil IsTaskInRange
tasks_in_range format (Some items) listed h = items_in_range format 0 items listed h

support_in_range : (members : Option Members) → support_ranges (read_support members) ≡ None
support_in_range None = refl
support_in_range (Some members) =
    both_none _ _ (number_in_range _ _ 0 16383 0 refl (get_member (codes "fine") members >>= as_integer))
    (number_in_range _ _ 1 16384 1 refl (get_member (codes "step") members >>= as_integer))

settings_in_range : (doc : Members) → settings_ranges (read_settings doc) ≡ None
settings_in_range doc =
    both_none _ _ (number_in_range _ _ 3 16384 2048 refl (get_member (codes "cap") doc >>= as_integer))
    (both_none _ _ (number_in_range _ _ 1 64 1 refl (get_member (codes "hyperperiods") doc >>= as_integer))
    (both_none _ _ (number_in_range _ _ 0 64 16 refl (get_member (codes "turns") doc >>= as_integer))
    (support_in_range (get_member (codes "support") doc >>= as_table))))

pub read_in_range : (doc : Members) → document_fault doc ≡ None → part_ranges (read doc) ≡ None
read_in_range doc none =
    let items = array_at (codes "task") doc in
    let (listed, in_range) = passed doc none in
    let each = tasks_in_range (format_of doc) items (of_tasks Listed doc listed) (of_tasks Range doc in_range) in
    both_none _ _ (settings_in_range doc) (none_below _ (length (read_tasks items)) (λ i low. each i _ low i))
