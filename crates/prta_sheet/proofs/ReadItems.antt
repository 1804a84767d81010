-- Reading an array, one value after the other.
use Rattle.std.proofs.Common.{◌≡◌, ℕ, zero, suc, Bool, true, false, ◌||◌, lt-ltb, option_map, position, Bor, BTreeMap, String, Global, ◌+◌, ◌<◌, ◌≤◌, Option, Some, None, List, [], ◌∷◌, ◌++◌, length, get_or, drop, map, codes, refl, ap, ap₂, sym, ◌∙◌, append_assoc, append-nil, arith}
use Rattle.std.proofs.lemmas.List.{drop_all, drop_more}
use Rattle.std.proofs.lemmas.Simd.{map-map}
use Rattle.toml.specs.Data.{Items, Members, no_items, item, as_array, as_table}
use Rattle.toml.specs.View.{view, items_view, table_view}
use Rattle.toml.specs.declared.value.Value.{Value}
use Rattle.toml.proofs.Views.{items_view-drop}
use Rattle.std.specs.List.{list_any, position_or_len}
use Rattle.std.proofs.lemmas.List.Sums.{position_or_len_is}
use Rattle.prta_mass.specs.Table.{Table, or_else, shape_fault}
use Rattle.prta_mass.specs.declared.table.TableFault.{TableFault}
use Rattle.prta_sheet.specs.declared.fault.SheetFault.TheVariants.{BadTable, TotalTooLarge}
use Rattle.prta_sheet.specs.declared.settings.Settings.{Settings}
use Rattle.prta_sheet.specs.Sheet.{Task, task_at}
use Rattle.prta_sheet.specs.Document.{array_at}
use Rattle.prta_sheet.specs.DocumentConditions.{first_of}
use Rattle.prta_sheet.specs.SheetConditions.{table_fault_at, table_fault, total_fault}
use Rattle.prta_sheet.proofs.FirstOf.{map_none, none_in_range}
use Rattle.prta_sheet.proofs.Ranges.{All_from_places, no_position}
use Rattle.prta_sheet.specs.Reading.{point_of, points_of_items, points_of, is_heavy, read_cycle_items, with_table, tables_of_items, task_tables, read_task, with_read_task, read_task_items, read_tasks, read_settings, read}

module _ (values : List Value) where
  pub items_past : (i : ℕ) → length values ≤ i → items_view (drop i values) ≡ no_items
  items_past i high = rw (drop_all i values high)

  -- what is read, in front of what is still to be read
  abbrev pub points_from : Table → ℕ → Table
  points_from front i = front ++ points_of_items (items_view (drop i values))

  abbrev pub cycle_from : List Table → ℕ → List Table
  cycle_from front i = front ++ read_cycle_items (items_view (drop i values))

  abbrev pub tables_from : List Members → ℕ → List Members
  tables_from front i = front ++ tables_of_items (items_view (drop i values))

  pub points_done : (front : Table) (i : ℕ) → length values ≤ i → points_from front i ≡ front
  points_done front i high = rw (items_past i high) (append-nil front)

  pub cycle_done : (front : List Table) (i : ℕ) → length values ≤ i → cycle_from front i ≡ front
  cycle_done front i high = rw (items_past i high) (append-nil front)

  pub tables_done : (front : List Members) (i : ℕ) → length values ≤ i → tables_from front i ≡ front
  tables_done front i high = rw (items_past i high) (append-nil front)

  module _ (i : ℕ) (value : Value) (low : i < length values) (is : value ≡ get_or values i value) where
    pub points_more : (front : Table) → points_from front i ≡ points_from (front ++ point_of (view value) ∷ []) (i + 1)
    points_more front =
        let rest = points_of_items (items_view (drop (i + 1) values)) in
        rw (items_view-drop values i value low) (ap (λ v. front ++ point_of (view v) ∷ rest) (sym is) ∙ sym (append_assoc front (point_of (view value) ∷ []) rest))

    pub cycle_more : (front : List Table) → cycle_from front i ≡ cycle_from (front ++ points_of (as_array (view value)) ∷ []) (i + 1)
    cycle_more front =
        let rest = read_cycle_items (items_view (drop (i + 1) values)) in
        rw (items_view-drop values i value low) (ap (λ v. front ++ points_of (as_array (view v)) ∷ rest) (sym is) ∙ sym (append_assoc front (points_of (as_array (view value)) ∷ []) rest))

    tables_here : (front : List Members) → tables_from front i ≡ front ++ with_table (as_table (view value)) (tables_of_items (items_view (drop (i + 1) values)))
    tables_here front =
        rw (items_view-drop values i value low) (ap (λ v. front ++ with_table (as_table (view v)) (tables_of_items (items_view (drop (i + 1) values)))) (sym is))

    pub tables_more : (front : List Members) (table : Members) → as_table (view value) ≡ Some table → tables_from front i ≡ tables_from (front ++ table ∷ []) (i + 1)
    tables_more front table here =
        let rest = tables_of_items (items_view (drop (i + 1) values)) in
        tables_here front ∙ ap (λ o. front ++ with_table o rest) here ∙ sym (append_assoc front (table ∷ []) rest)

    pub tables_same : (front : List Members) → as_table (view value) ≡ None → tables_from front i ≡ tables_from front (i + 1)
    tables_same front here = tables_here front ∙ ap (λ o. front ++ with_table o (tables_of_items (items_view (drop (i + 1) values)))) here

-- the tasks are read table by table
with_each : (first : Option Members) (tasks : List Task) (tables : List Members) → tasks ≡ map read_task tables → with_read_task first tasks ≡ map read_task (with_table first tables)
with_each None tasks tables each = each
with_each (Some table) tasks tables each = ap (λ rest. read_task table ∷ rest) each

read_task_each : (items : Items) → read_task_items items ≡ map read_task (tables_of_items items)
read_task_each no_items = refl
read_task_each (item first rest) = with_each (as_table first) (read_task_items rest) (tables_of_items rest) (read_task_each rest)

pub read_tasks_each : (items : Option Items) → read_tasks items ≡ map read_task (task_tables items)
read_tasks_each None = refl
read_tasks_each (Some items) = read_task_each items

-- ---- the task at a place

-- the task of a table of the document
abbrev pub task_read : Bor (BTreeMap (String Global) Value) → Task
task_read t = read_task (table_view t.now)

pub task_at_map : {X : Type 0} (f : X → Task) (xs : List X) (i : ℕ) (x : X) → i < length xs → x ≡ get_or xs i x → task_at (map f xs) i ≡ f x
task_at_map f [] i x low is = absurd (omega arith)
task_at_map f (y ∷ ys) zero x low is = ap f (sym is)
task_at_map f (y ∷ ys) (suc i) x low is = task_at_map f ys i x (omega arith) is

-- what is read of the tables is what is read of the document
pub read_of_tables : (doc : Members) (settings : Settings) (tables : List (Bor (BTreeMap (String Global) Value))) → settings ≡ read_settings doc →
    map (λ t. table_view t.now) tables ≡ task_tables (array_at (codes "task") doc) →
    record { settings = settings; tasks = map task_read tables } ≡ read doc
read_of_tables doc settings tables same found =
    ap₂ (λ settings tasks. record { settings = settings; tasks = tasks }) same
    (sym (map-map read_task (λ t. table_view t.now) tables) ∙ ap (map read_task) found ∙ sym (read_tasks_each (array_at (codes "task") doc)))

-- the first fault of the tables of its cycle
pub fault_at : (tasks : List Task) (i : ℕ) (task : Task) (cycle : List Table) (fault : Option TableFault) → task_at tasks i ≡ task → cycle ≡ task.cycle → fault ≡ first_of shape_fault cycle
    → table_fault_at tasks i ≡ option_map (BadTable i) fault
fault_at tasks i task cycle fault at same is =
    ap (λ (t : Task). option_map (BadTable i) (first_of shape_fault t.cycle)) at ∙ ap (λ tables. option_map (BadTable i) (first_of shape_fault tables)) (sym same) ∙ ap (option_map (BadTable i)) (sym is)

pub no_fault_at : (tasks : List Task) (i : ℕ) → i < length tasks → table_fault tasks ≡ None → first_of shape_fault (task_at tasks i).cycle ≡ None
no_fault_at tasks i low none = map_none (BadTable i) (first_of shape_fault (task_at tasks i).cycle) (none_in_range (table_fault_at tasks) 0 (length tasks) i none (omega arith) (omega arith))

-- the weights of one of its tables sum to too much
abbrev pub has_heavy : Task → Bool
has_heavy task = list_any is_heavy task.cycle

abbrev pub is_heavy_at : List Task → ℕ → Bool
is_heavy_at tasks i = has_heavy (task_at tasks i)

-- the first place at which a test passes
pub position_first : {X : Type 0} (p : X → Bool) (xs : List X) (i : ℕ) (d : X) → i < length xs → ((k : ℕ) → k < i → p (get_or xs k d) ≡ false) → p (get_or xs i d) ≡ true → position p xs ≡ Some i
position_first p xs i d low before here =
    let place : position_or_len p xs ≡ i = position_or_len_is p xs i d (omega arith) before (λ _. here) in
    rw (place, lt-ltb i (length xs) low) refl

pub first_heavy : (tasks : List Task) (i : ℕ) → i < length tasks → ((k : ℕ) → k < i → is_heavy_at tasks k ≡ false) → is_heavy_at tasks i ≡ true → total_fault tasks ≡ Some (TotalTooLarge i)
first_heavy tasks i low before here = ap (option_map TotalTooLarge) (position_first has_heavy tasks i _ low before here)

pub none_heavy : (tasks : List Task) → ((k : ℕ) → k < length tasks → is_heavy_at tasks k ≡ false) → total_fault tasks ≡ None
none_heavy tasks light = ap (option_map TotalTooLarge) (no_position has_heavy tasks (All_from_places (λ task. has_heavy task ≡ false) tasks _ light))

-- ---- the tables of a cycle, each as its points

module _ {X : Type 0} (points : X → Table) (cycle : List X) where
  -- the first fault of shape from the i-th table on
  abbrev pub faults_from : ℕ → Option TableFault
  faults_from i = first_of shape_fault (map points (drop i cycle))

  -- the weights of one of the tables from the i-th on sum to too much
  abbrev pub heavy_from : ℕ → Bool
  heavy_from i = list_any is_heavy (map points (drop i cycle))

  -- what is made, in front of what is still to be made
  abbrev pub made_from : List Table → ℕ → List Table
  made_from front i = front ++ map points (drop i cycle)

  pub no_faults_past : (i : ℕ) → length cycle ≤ i → faults_from i ≡ None
  no_faults_past i high = rw (drop_all i cycle high)

  pub none_heavy_past : (i : ℕ) → length cycle ≤ i → heavy_from i ≡ false
  none_heavy_past i high = rw (drop_all i cycle high)

  pub made_past : (front : List Table) (i : ℕ) → length cycle ≤ i → made_from front i ≡ front
  made_past front i high = rw (drop_all i cycle high) (append-nil front)

  module _ (i : ℕ) (x : X) (low : i < length cycle) (is : x ≡ get_or cycle i x) where
    pub faults_more : faults_from i ≡ or_else (shape_fault (points x)) (faults_from (i + 1))
    faults_more = rw (drop_more cycle i x low) (ap (λ y. or_else (shape_fault (points y)) (faults_from (i + 1))) (sym is))

    pub heavy_more : heavy_from i ≡ (is_heavy (points x) || heavy_from (i + 1))
    heavy_more = rw (drop_more cycle i x low) (ap (λ y. is_heavy (points y) || heavy_from (i + 1)) (sym is))

    pub made_more : (front : List Table) → made_from front i ≡ made_from (front ++ points x ∷ []) (i + 1)
    made_more front =
        let rest = map points (drop (i + 1) cycle) in
        rw (drop_more cycle i x low) (ap (λ y. front ++ points y ∷ rest) (sym is) ∙ sym (append_assoc front (points x ∷ []) rest))
