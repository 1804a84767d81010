-- What is read of a document is what it states, where its values are in their ranges.
use Rattle.std.proofs.Common.{◌≡◌, ℕ, ℤ, pos, negsuc, ◌+◌, ◌^◌, Bool, true, false, ◌&&◌, nat_le, Option, Some, None, unwrap_or, List, [], ◌∷◌, ◌++◌, codes, refl, ap, ap₂, sym, ◌∙◌}
use Rattle.std.proofs.lemmas.Bool.{and_parts, not-false, true≢false, false≢true}
use Rattle.toml.specs.Data.{Data, integer, array, Items, no_items, item, Members, get_member, as_table, as_array, as_integer}
use Rattle.prta_sheet.specs.declared.fault.Place.TheVariants as place
use Rattle.prta_sheet.specs.declared.conditions.Condition.{Condition}
use Rattle.prta_sheet.specs.declared.conditions.Condition.TheVariants.{Listed, Needed, Kind, Range}
use Rattle.prta_mass.specs.Table.{Table}
use Rattle.prta_sheet.specs.Sheet.{Task}
use Rattle.prta_sheet.specs.Format.{is_from_to, is_pair_with, is_share, is_time_with_weight, is_times, each_item, item_count, top_rows, support_rows}
use Rattle.prta_sheet.specs.Document.{◌>>=◌, number_or, table_at, array_at}
use Rattle.prta_sheet.specs.DocumentConditions.{fails, fault_in, format_of, format_fault, first_fault, document_fault, first_of, spot, task_spots, all_task_spots, Spot}
use Rattle.prta_sheet.specs.SheetConditions.{later_fault}
use Rattle.prta_sheet.specs.Refusal.{document_refusal}
use Rattle.prta_sheet.specs.Stated.{pair_or, pairs_of_items, pairs_of, cycle_of_items, cycle_or, stated_task, with_task, tasks_of_items, stated_tasks, stated_support, stated_settings, stated}
use Rattle.prta_sheet.specs.Reading.{within, share_of, point_of, points_of_items, points_of, read_cycle_items, read_cycle, read_task, with_read_task, read_task_items, read_tasks, read_support, read_settings, read}
use Rattle.prta_sheet.proofs.FirstOf.{first_none, next_none, past_none}
use Rattle.prta_sheet.proofs.AllPass.{first_of-each, first_of-left, first_of-right, rows_in_range}
use Rattle.prta_sheet.proofs.StatedTables.{rows_in, task_spot, StatesTables, under_times, under_cycle, states_tables}

-- the value, where there is one, passes
abbrev Passes : (Data → Bool) → Option Data → Type 0
Passes range value = fails range value ≡ false

-- ---- values

number_reads : (low high default : ℕ) (value : Option Data) → Passes (is_from_to low high) value
    → unwrap_or (value >>= as_integer >>= within low high) default ≡ number_or default value
number_reads low high default None h = refl
number_reads low high default (Some (integer (pos n))) h = rw (not-false _ h) refl
number_reads low high default (Some _) h = refl

-- an array of two integers
abbrev both : ℤ → ℤ → Data
both a b = array (item (integer a) (item (integer b) no_items))

share_reads_of : (p q : ℤ) → is_share p q ≡ true → share_of (Some (both p q)) ≡ pair_or (0, 1) (Some (both p q))
share_reads_of (pos p) (pos q) h =
    let (whole, part) = and_parts (nat_le 1 q && nat_le q (10 ^ 18)) (nat_le 0 p && nat_le p q) h in
    rw (whole, part) refl
share_reads_of (negsuc p) (pos q) h =
    let (whole, part) = and_parts (nat_le 1 q && nat_le q (10 ^ 18)) false h in
    absurd (false≢true part)
share_reads_of p (negsuc q) h = absurd (false≢true h)

share_reads : (value : Option Data) → Passes (is_pair_with is_share) value → share_of value ≡ pair_or (0, 1) value
share_reads None h = refl
share_reads (Some (array (item (integer p) (item (integer q) no_items)))) h = share_reads_of p q (not-false _ h)
share_reads (Some _) h = absurd (true≢false h)

point_reads_of : (time weight : ℤ) → is_time_with_weight time weight ≡ true → point_of (both time weight) ≡ pair_or (0, 0) (Some (both time weight))
point_reads_of (pos time) (pos weight) h =
    let (early, natural) = and_parts (nat_le 0 time && nat_le time 1000000) true h in
    rw early refl
point_reads_of (pos time) (negsuc weight) h =
    let (early, natural) = and_parts (nat_le 0 time && nat_le time 1000000) false h in
    absurd (false≢true natural)
point_reads_of (negsuc time) weight h = absurd (false≢true h)

point_reads : (value : Data) → is_pair_with is_time_with_weight value ≡ true → point_of value ≡ pair_or (0, 0) (Some value)
point_reads (array (item (integer time) (item (integer weight) no_items))) h = point_reads_of time weight h
point_reads _ h = absurd (false≢true h)

points_read : (items : Items) → each_item (is_pair_with is_time_with_weight) items ≡ true → points_of_items items ≡ pairs_of_items items
points_read no_items h = refl
points_read (item first rest) h =
    let (here, later) = and_parts (is_pair_with is_time_with_weight first) (each_item (is_pair_with is_time_with_weight) rest) h in
    ap₂ (λ point points. point ∷ points) (point_reads first here) (points_read rest later)

table_reads : (value : Data) → is_times value ≡ true → points_of (as_array value) ≡ pairs_of (as_array value)
table_reads (array items) h = points_read items h
table_reads _ h = refl

cycle_items_read : (items : Items) → each_item is_times items ≡ true → read_cycle_items items ≡ cycle_of_items items
cycle_items_read no_items h = refl
cycle_items_read (item first rest) h =
    let (here, later) = and_parts (is_times first) (each_item is_times rest) h in
    ap₂ (λ (table : Table) (tables : List Table). table ∷ tables) (table_reads first here) (cycle_items_read rest later)

times_read : (value : Option Data) → Passes is_times value → points_of (value >>= as_array) ≡ pairs_of (value >>= as_array)
times_read None h = refl
times_read (Some (array items)) h = points_read items (not-false _ h)
times_read (Some _) h = refl

-- ---- tables

-- no value of a table is outside its range
abbrev IsInRange : Spot → Type 0
IsInRange s = fault_in Range s ≡ None

-- each key of a table is listed
abbrev IsListed : Spot → Type 0
IsListed s = fault_in Listed s ≡ None

cycle_reads : (table : Members) → StatesTables table → read_cycle table ≡ cycle_or (pairs_of (array_at (codes "times") table)) (array_at (codes "cycle") table)
cycle_reads table (under_times none times) = rw none (ap (λ (t : Table). t ∷ []) (times_read (get_member (codes "times") table) times))
cycle_reads table (under_cycle items is cycle) =
    let (few, each) = and_parts (nat_le 1 (item_count items) && nat_le (item_count items) 16) (each_item is_times items) cycle in
    rw is (cycle_items_read items each)

task_reads : (format i : ℕ) (members : Members) → IsListed (task_spot format i members) → IsInRange (task_spot format i members) → read_task members ≡ stated_task members
task_reads format i members listed h =
    let (name, (offset, (period, (deadline, (tables, (allow, end)))))) = rows_in_range (task_spot format i members) h in
    rw (
      number_reads 0 999999 0 (get_member (codes "offset") members) offset,
      number_reads 1 1000000 1 (get_member (codes "period") members) period,
      number_reads 1 1000000 1 (get_member (codes "deadline") members) deadline,
      cycle_reads members (states_tables members format i listed h),
      share_reads (get_member (codes "allow") members) allow,
    ) refl

-- one element of `task` before others
with_task_reads : (format i : ℕ) (element : Option Members) (read_rest rest : List Task) → first_of (fault_in Listed) (spot (place.Task i) (rows_in format) element) ≡ None
    → first_of (fault_in Range) (spot (place.Task i) (rows_in format) element) ≡ None → read_rest ≡ rest → with_read_task element read_rest ≡ with_task element rest
with_task_reads format i None read_rest rest listed h same = same
with_task_reads format i (Some members) read_rest rest listed h same =
    let known = (first_of-each (fault_in Listed) (task_spot format i members ∷ []) listed).0 in
    let here = (first_of-each (fault_in Range) (task_spot format i members ∷ []) h).0 in
    ap₂ (λ (task : Task) (tasks : List Task). task ∷ tasks) (task_reads format i members known here) same

task_items_read : (format i : ℕ) (items : Items) → first_of (fault_in Listed) (task_spots format i items) ≡ None → first_of (fault_in Range) (task_spots format i items) ≡ None
    → read_task_items items ≡ tasks_of_items items
task_items_read format i no_items listed h = refl
task_items_read format i (item first rest) listed h =
    let here = spot (place.Task i) (rows_in format) (as_table first) in
    let later = task_spots format (i + 1) rest in
    with_task_reads format i (as_table first) _ _ (first_of-left (fault_in Listed) here later listed) (first_of-left (fault_in Range) here later h)
    (task_items_read format (i + 1) rest (first_of-right (fault_in Listed) here later listed) (first_of-right (fault_in Range) here later h))

tasks_read : (format : ℕ) (items : Option Items) → first_of (fault_in Listed) (all_task_spots format items) ≡ None → first_of (fault_in Range) (all_task_spots format items) ≡ None
    → read_tasks items ≡ stated_tasks items
tasks_read format None listed h = refl
tasks_read format (Some items) listed h = task_items_read format 0 items listed h

abbrev support_spot : Members → Spot
support_spot members = record { at = place.Support; rows = support_rows; table = members }

support_reads : (members : Option Members) → first_of (fault_in Range) (spot place.Support (λ table. support_rows) members) ≡ None → read_support members ≡ stated_support members
support_reads None h = refl
support_reads (Some members) h =
    let here = (first_of-each (fault_in Range) (support_spot members ∷ []) h).0 in
    let (fine, (step, end)) = rows_in_range (support_spot members) here in
    rw (
      number_reads 0 16383 0 (get_member (codes "fine") members) fine,
      number_reads 1 16384 1 (get_member (codes "step") members) step,
    ) refl

abbrev top_spot : Members → Spot
top_spot doc = record { at = place.Top; rows = top_rows; table = doc }

settings_read : (doc : Members) → IsInRange (top_spot doc) → first_of (fault_in Range) (spot place.Support (λ table. support_rows) (get_member (codes "support") doc >>= as_table)) ≡ None
    → read_settings doc ≡ stated_settings doc
settings_read doc top support =
    let (format, (cap, (hyperperiods, (turns, rest)))) = rows_in_range (top_spot doc) top in
    rw (
      number_reads 3 16384 2048 (get_member (codes "cap") doc) cap,
      number_reads 1 64 1 (get_member (codes "hyperperiods") doc) hyperperiods,
      number_reads 0 64 16 (get_member (codes "turns") doc) turns,
      support_reads (get_member (codes "support") doc >>= as_table) support,
    ) refl

-- a condition on a document is one on its top, its support and its tasks
pub of_tasks : (condition : Condition) (doc : Members) → first_fault condition doc ≡ None → first_of (fault_in condition) (all_task_spots (format_of doc) (array_at (codes "task") doc)) ≡ None
of_tasks condition doc h =
    let top = spot place.Top (λ table. top_rows) (Some doc) in
    let support = spot place.Support (λ table. support_rows) (table_at (codes "support") doc) in
    let tasks = all_task_spots (format_of doc) (array_at (codes "task") doc) in
    first_of-right (fault_in condition) support tasks (first_of-right (fault_in condition) top (support ++ tasks) h)

reads : (doc : Members) → first_fault Listed doc ≡ None → first_fault Range doc ≡ None → read doc ≡ stated doc
reads doc listed h =
    let top = spot place.Top (λ table. top_rows) (Some doc) in
    let support = spot place.Support (λ table. support_rows) (table_at (codes "support") doc) in
    let tasks = all_task_spots (format_of doc) (array_at (codes "task") doc) in
    let later = first_of-right (fault_in Range) top (support ++ tasks) h in
    let here = (first_of-each (fault_in Range) top (first_of-left (fault_in Range) top (support ++ tasks) h)).0 in
    rw (
      settings_read doc here (first_of-left (fault_in Range) support tasks later),
      tasks_read (format_of doc) (array_at (codes "task") doc) (of_tasks Listed doc listed) (of_tasks Range doc h),
    ) refl

-- the conditions of a document that passes: its keys are listed, and its numbers are in their ranges
pub passed : (doc : Members) → document_fault doc ≡ None → (first_fault Listed doc ≡ None) × (first_fault Range doc ≡ None)
passed doc none =
    let after_format = next_none (format_fault doc) _ none in
    let after_listed = next_none (first_fault Listed doc) _ after_format in
    let after_needed = next_none (first_fault Needed doc) _ after_listed in
    (first_none (first_fault Listed doc) _ after_format, next_none (first_fault Kind doc) (first_fault Range doc) after_needed)

-- so, where the document's own conditions pass, what is read is the sheet, and its later conditions are those that are left
pub read_as_stated : (doc : Members) → document_fault doc ≡ None → (read doc ≡ stated doc) × (later_fault (read doc) ≡ document_refusal doc)
read_as_stated doc none =
    let (listed, in_range) = passed doc none in
    let same = reads doc listed in_range in
    (same, ap later_fault same ∙ sym (past_none (document_fault doc) (later_fault (stated doc)) none))
